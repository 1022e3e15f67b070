-- A sheet's planes and reach are bounded.
use Rattle.std.proofs.Common.{◌≡◌, ℕ, zero, suc, ◌+◌, ◌-◌, ◌*◌, ◌/◌, ◌%◌, ◌≤◌, Bool, true, not, eqb, ltb, leb, List, [], ◌∷◌, length, None, sym, ap, ◌∙◌, subst, ⊎_elim, arith}
use Rattle.std.specs.List.{AllByRecursion as Every}
use Rattle.std.proofs.lemmas.Bool.{cases_lt, and_parts, leb-true, not-false}
use Rattle.recipe.specs.declared.entry.Entry.{Entry}
use Rattle.recipe.specs.declared.fault.Layer.TheVariants.{Plan}
use Rattle.recipe.specs.Elements.{Offsets, offsets, radius}
use Rattle.recipe.specs.Steps.{Change, negation, folding, filtering, selecting, Merge, bounding, averaging, Form, start, change, merge, form, wants}
use Rattle.recipe.specs.Machines.{by_form}
use Rattle.recipe.specs.Sheets.{after, of_two, on_entries, sheet_of, top}
use Rattle.recipe.specs.Refusals.{refusal}
use Rattle.recipe.specs.Plans.{given, record_at, reads, placed, Progress, nothing, walked, right_length, finished}
use Rattle.recipe.specs.Laws.{Bounds, BoundsLaw}
use Rattle.recipe.proofs.Gathered.{radius_greatest}
use Rattle.recipe.proofs.Checking.{same_given, let_by, both_given, places, walk, walk_some}

pub radius_small : (E : Offsets) → radius E ≤ 2
radius_small E =
    ⊎_elim
    (λ l. let g = (radius_greatest E).reached l in let b = g.1 in let d = g.3 in omega arith)
    (λ l. omega arith)
    (cases_lt 0 (radius E))

-- every entry reaches m at most
abbrev Near : ℕ → List Entry → Type 0
Near m st = Every (λ e. e.reach ≤ m) st

near_wider : (m n : ℕ) → m ≤ n → (st : List Entry) → Near m st → Near n st
near_wider m n l [] h = tt
near_wider m n l (e ∷ st) h = (let k = h.0 in omega arith, near_wider m n l st h.1)

-- a step lengthens a reach by 4 at most
after_near : (c : Change) (e : Entry) (m : ℕ) → e.reach ≤ m → (after c e).reach ≤ m + 4
after_near negation e m l = omega arith
after_near (folding d n) e m l = omega (arith, radius_small (offsets n))
after_near (filtering d n) e m l = omega (arith, radius_small (offsets n))
after_near (selecting d n) e m l = omega (arith, radius_small (offsets n))

two_near : (g : Merge) (a b : Entry) (m : ℕ) → a.reach ≤ m → b.reach ≤ m → (of_two g a b).reach ≤ m + 4
two_near (bounding d) a b m l k = omega arith
two_near (averaging d) a b m l k = omega arith

by_form_near : (f : Form) (st : List Entry) (m : ℕ) → Near m st → Near (m + 4) (by_form on_entries f st)
by_form_near start st m h = (omega arith, near_wider m (m + 4) (omega arith) st h)
by_form_near (change c) [] m h = tt
by_form_near (change c) (e ∷ st) m h = (after_near c e m h.0, near_wider m (m + 4) (omega arith) st h.1)
by_form_near (merge g) [] m h = tt
by_form_near (merge g) (a ∷ []) m h = near_wider m (m + 4) (omega arith) (a ∷ []) h
by_form_near (merge g) (a ∷ b ∷ st) m h =
    (two_near g b a m h.1.0 h.0, near_wider m (m + 4) (omega arith) st h.1.1)

walk_near :
    (ranked : Bool) (bytes : List ℕ) (n i : ℕ) (t u : Progress) (m : ℕ) → walked ranked bytes n i t ≡ given u →
    Near m t.entries → Near (m + 4 * n) u.entries
walk_near ranked bytes zero i t u m e h =
    let z : m ≡ m + 4 * 0 = omega arith in
    subst (λ k. Near k u.entries) z (subst (λ (v : Progress). Near m v.entries) (same_given t u e) h)
walk_near ranked bytes (suc n) i t u m e h =
    let r = both_given (reads i (record_at bytes i)) _ u e in
    let p = both_given (placed ranked i r.0 t) _ u r.2 in
    let grows = (places ranked i r.0 t p.0 p.1).grows in
    let here = subst (λ (v : Progress). Near (m + 4) v.entries) grows (by_form_near (form r.0) t.entries m h) in
    let z : m + 4 + 4 * n ≡ m + 4 * suc n = omega arith in
    subst (λ k. Near k u.entries) z (walk_near ranked bytes n (i + 1) p.0 u (m + 4) p.2 here)

-- the first record that passes is the frame
starts_near : (f : Form) → wants f ≤ 0 → Near 0 (by_form on_entries f [])
starts_near start l = (omega arith, tt)
starts_near (change c) l = tt
starts_near (merge m) l = tt

recipe_near : (ranked : Bool) (bytes : List ℕ) (n : ℕ) (u : Progress) → walked ranked bytes (suc n) 0 nothing ≡ given u → Near (4 * n) u.entries
recipe_near ranked bytes n u e =
    let r = both_given (reads 0 (record_at bytes 0)) _ u e in
    let p = both_given (placed ranked 0 r.0 nothing) _ u r.2 in
    let w = places ranked 0 r.0 nothing p.0 p.1 in
    let here = subst (λ (v : Progress). Near 0 v.entries) w.grows (starts_near (form r.0) w.planes) in
    let z : 0 + 4 * n ≡ 4 * n = omega arith in
    subst (λ k. Near k u.entries) z (walk_near ranked bytes n 1 p.0 u 0 p.2 here)

top_near : (m : ℕ) (st : List Entry) → Near m st → (top st).reach ≤ m
top_near m [] h = omega arith
top_near m (e ∷ st) h = h.0

-- what a right length says of the number of records
count_is : (n : ℕ) → right_length n ≡ true → (k : ℕ) × (n / 8 ≡ suc k) × (k ≤ 63)
count_is n h =
    let a = and_parts _ _ h in
    let b = and_parts (leb n 512) (eqb (n % 8) 0) a.1 in
    let l = leb-true 8 n a.0 in
    let m = leb-true n 512 b.0 in
    (n / 8 - 1, omega arith, omega arith)

pub bounds_law : BoundsLaw
bounds_law ranked bytes s e =
    let a = let_by (not (right_length (length bytes))) (refusal 11 Plan None) _ s e in
    let k = count_is (length bytes) (not-false _ a.0) in
    let t = both_given (walked ranked bytes (length bytes / 8) 0 nothing) finished s a.1 in
    let whole = t.1 in
    let goes : walked ranked bytes (suc k.0) 0 nothing ≡ given t.0 = ap (λ n. walked ranked bytes n 0 nothing) (sym k.1) ∙ whole in
    let w = walk ranked bytes (length bytes / 8) 0 nothing t.0 whole in
    let f = let_by (ltb 1 (length t.0.entries)) (refusal 18 Plan None) (given (sheet_of t.0.planes t.0.entries)) s t.2 in
    let is = same_given (sheet_of t.0.planes t.0.entries) s f.1 in
    let some = walk_some ranked bytes k.0 0 nothing t.0 goes in
    let covers = w.covers (omega arith) in
    let low = (w.low (record { depth = omega arith; planes = omega arith })).planes in
    let near = top_near (4 * k.0) t.0.entries (recipe_near ranked bytes k.0 t.0 goes) in
    let few = k.2 in
    subst Bounds is (record { some = omega arith; few = low; near = omega arith })
