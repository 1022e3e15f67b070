-- What the plan checker's length test and its last records give.
use Rattle.std.proofs.Common.{◌≡◌, ℕ, suc, ◌-◌, ◌/◌, ◌%◌, ◌<◌, ◌≤◌, Bool, true, false, not, ◌||◌, eqb, ltb, List, length, None, sym, refl, ap, ◌∙◌, arith}
use Rattle.std.proofs.lemmas.Bool.{ltb-false, le-leb, or_parts, and_from, not-false, lt-ltb, le-ltb}
use Rattle.recipe.specs.declared.fault.Layer.TheVariants.{Plan}
use Rattle.recipe.specs.declared.fault.Refusal.{Refusal}
use Rattle.recipe.specs.Depths.{runs}
use Rattle.recipe.specs.Sheets.{sheet_of}
use Rattle.recipe.specs.Refusals.{refusal}
use Rattle.recipe.specs.Plans.{given, refused, unless, next, Progress, nothing, right_length, finished, checked, walked, steps_of}
use Rattle.recipe.proofs.Refusing.{pass, stop}
use Rattle.recipe.proofs.Checking.{walk, walk_some}

-- the tests of the length, as the code makes them
abbrev pub off_length : ℕ → Bool
off_length n = (ltb n 8 || ltb 512 n) || not (eqb (n % 8) 0)

length_is : (n : ℕ) → off_length n ≡ false → right_length n ≡ true
length_is n h =
    let a = or_parts _ _ h in
    let b = or_parts _ _ a.0 in
    and_from _ _ (le-leb 8 n (ltb-false _ _ b.0)) (and_from _ _ (le-leb n 512 (ltb-false _ _ b.1)) (not-false _ a.1))

records_some : (n : ℕ) → off_length n ≡ false → (k : ℕ) × (n / 8 ≡ suc k)
records_some n h =
    let a = or_parts _ _ h in
    let b = or_parts _ _ a.0 in
    let l = ltb-false n 8 b.0 in
    (n / 8 - 1, omega arith)

pub records_few : (n : ℕ) → off_length n ≡ false → (1 ≤ n / 8) × (n / 8 ≤ 64)
records_few n h =
    let a = or_parts _ _ h in
    let b = or_parts _ _ a.0 in
    let l = ltb-false n 8 b.0 in
    let k = ltb-false 512 n b.1 in
    (omega arith, omega arith)

module _ (ranked : Bool) (bytes : List ℕ) (long : off_length (length bytes) ≡ false) where
  pub of_length : checked ranked bytes ≡ next (walked ranked bytes (length bytes / 8) 0 nothing) finished
  of_length =
      ap (λ b. unless (not b) (refusal 11 Plan None) (next (walked ranked bytes (length bytes / 8) 0 nothing) finished)) (length_is (length bytes) long)

  -- a refusal on the way
  pub stopped : (r : Refusal) → walked ranked bytes (length bytes / 8) 0 nothing ≡ refused r → refused r ≡ checked ranked bytes
  stopped r e = sym (of_length ∙ ap (λ a. next a finished) e)

  -- after the last record
  module _ (i : ℕ) (t : Progress) (last : length bytes / 8 ≤ i)
      (inv : walked ranked bytes (length bytes / 8) 0 nothing ≡ walked ranked bytes (length bytes / 8 - i) i t) where
    ended : walked ranked bytes (length bytes / 8) 0 nothing ≡ given t
    ended = let e : length bytes / 8 - i ≡ 0 = omega arith in inv ∙ ap (λ n. walked ranked bytes n i t) e

    finishes : checked ranked bytes ≡ finished t
    finishes = of_length ∙ ap (λ a. next a finished) ended

    pub left_over : 1 < length t.entries → refused (refusal 18 Plan None) ≡ checked ranked bytes
    left_over l = stop (ltb 1 (length t.entries)) _ _ (lt-ltb 1 (length t.entries) l) ∙ sym finishes

    module _ (one : length t.entries ≤ 1) where
      pub passed : given (sheet_of t.planes t.entries) ≡ checked ranked bytes
      passed = pass (ltb 1 (length t.entries)) _ _ _ (le-ltb 1 (length t.entries) one) refl ∙ sym finishes

      pub some : length t.entries ≡ 1
      some =
          let k = records_some (length bytes) long in
          let l = walk_some ranked bytes k.0 0 nothing t (ap (λ n. walked ranked bytes n 0 nothing) (sym k.1) ∙ ended) in
          omega arith

      pub sound : runs ranked t.planes 0 (steps_of bytes) ≡ true
      sound = (walk ranked bytes (length bytes / 8) 0 nothing t ended).runs_on t.planes (omega arith) some

      pub low : t.planes ≤ 4
      low = ((walk ranked bytes (length bytes / 8) 0 nothing t ended).low (record { depth = omega arith; planes = omega arith })).planes
