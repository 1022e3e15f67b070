-- What it says of a recipe that it is admitted: its steps find their ranks, they leave one plane, and the sheet is that of its entry.
use Rattle.std.proofs.Common.{◌≡◌, ℕ, zero, suc, ◌+◌, ◌-◌, ◌/◌, Bool, true, false, not, ◌&&◌, T, ltb, leb, List, length, sym, refl, ap, ◌∙◌, subst, true≢false, arith, leb→le, ltb-false}
use Rattle.std.specs.List.{AllByRecursion as Every}
use Rattle.level.specs.Kind.{Kind}
use Rattle.recipe.specs.declared.step.Step.{Step}
use Rattle.recipe.specs.declared.entry.Sheet.{Sheet}
use Rattle.recipe.specs.Steps.{form, reads_ranks}
use Rattle.recipe.specs.Machines.{stepped, run}
use Rattle.recipe.specs.Sheets.{on_entries}
use Rattle.recipe.specs.Plans.{given, record_at, reads, Progress, placed, walked, nothing, right_length, finished, steps_from, steps_of}
use Rattle.recipe.specs.Laws.{sheet_from}
use Rattle.recipe.proofs.Gathered.{first}
use Rattle.recipe.proofs.Checking.{same_given, let_by, both_given, read_is, places, walk_some}
use Rattle.recipe.proofs.Admitting.{sheet_is}
use Rattle.promise.specs.Laws.{Admitted, Suits, entries}

ranked_if : (a b : Bool) → a && not b ≡ false → T a → b ≡ true
ranked_if true true e t = refl
ranked_if true false e t = absurd (true≢false e)
ranked_if false b e t = elim t [ ]

passed : (b : Bool) → not b ≡ false → T b
passed true e = tt
passed false e = absurd (true≢false e)

module _ (ranked : Bool) where
  -- the step finds its ranks
  abbrev Finds : Step → Type 0
  Finds x = T (reads_ranks (form x)) → ranked ≡ true

  -- what n records from record i on did to the entries
  record Walked (bytes : List ℕ) (n i : ℕ) (t u : Progress) : Type 0 where
    suits : Every Finds (steps_from bytes n i)
    entries : u.entries ≡ run on_entries (steps_from bytes n i) t.entries

  walked_given : (bytes : List ℕ) (n i : ℕ) (t u : Progress) → walked ranked bytes n i t ≡ given u → Walked bytes n i t u
  walked_given bytes zero i t u e = record { suits = tt; entries = ap (λ v. v.entries) (sym (same_given t u e)) }
  walked_given bytes (suc n) i t u e =
      let x = both_given (reads i (record_at bytes i)) _ u e in
      let v = both_given (placed ranked i x.0 t) _ u x.2 in
      let is = sym (read_is i (record_at bytes i) x.0 x.1) in
      let p = places ranked i x.0 t v.0 v.1 in
      let rest = walked_given bytes n (i + 1) v.0 u v.2 in
      let grows = sym (ap (λ w. w.entries) p.grows) ∙ ap (λ y. stepped on_entries y t.entries) is in
      record {
        suits = (subst Finds is (ranked_if (reads_ranks (form x.0)) ranked p.ranks), rest.suits);
        entries = rest.entries ∙ ap (run on_entries (steps_from bytes n (i + 1))) grows;
      }

-- what is known of an admitted recipe
pub record Known (K : Kind) (bytes : List ℕ) (sheet : Sheet) : Type 0 where
  pub suits : Suits K (steps_of bytes)
  pub sheet_is : sheet ≡ sheet_from (steps_of bytes)
  pub one_left : length (entries (steps_of bytes)) ≡ 1

pub admitted : (K : Kind) (bytes : List ℕ) (sheet : Sheet) → Admitted K bytes sheet → Known K bytes sheet
admitted K bytes sheet e =
    let n = length bytes / 8 in
    let all = walked K.ranked bytes n 0 nothing in
    let long = let_by (not (right_length (length bytes))) _ _ sheet e in
    let t = both_given all finished sheet long.1 in
    let w = walked_given K.ranked bytes n 0 nothing t.0 t.1 in
    let end = let_by (ltb 1 (length t.0.entries)) _ _ sheet t.2 in
    let eight = leb→le 8 (length bytes) (first (leb 8 (length bytes)) _ (passed (right_length (length bytes)) long.0)) in
    let more : n ≡ suc (n - 1) = omega arith in
    let some = walk_some K.ranked bytes (n - 1) 0 nothing t.0 (subst (λ m. walked K.ranked bytes m 0 nothing ≡ given t.0) more t.1) in
    record {
      suits = w.suits;
      sheet_is = sheet_is K.ranked bytes sheet e;
      one_left = ap length (sym w.entries) ∙ omega (arith, some, ltb-false 1 (length t.0.entries) end.0);
    }
