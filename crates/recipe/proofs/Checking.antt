-- How a check goes on from record to record, and what is known of a recipe that passes.
use Rattle.std.proofs.Common.{◌≡◌, ℕ, zero, suc, ◌+◌, ◌-◌, ◌<◌, ◌≤◌, max, Bool, true, false, not, ◌&&◌, ◌||◌, leb, List, [], ◌∷◌, ◌++◌, length, take, set, sym, refl, ap, ◌∙◌, subst, ap₂, add-one, arith}
use Rattle.std.proofs.lemmas.List.{take_more_set}
use Rattle.std.proofs.lemmas.Bool.{ltb-false, leb-false, le-leb, eq-eqb, and_from}
use Rattle.recipe.specs.declared.fault.Refusal.{Refusal}
use Rattle.recipe.specs.declared.step.Step.{Step}
use Rattle.recipe.specs.Steps.{Form, start, change, merge, form, wants, reads_ranks, adds}
use Rattle.recipe.specs.Machines.{Machine, by_form}
use Rattle.recipe.specs.Depths.{deeper, runs}
use Rattle.recipe.specs.Sheets.{on_entries}
use Rattle.recipe.specs.Plans.{Answer, given, refused, unless, next, record_at, step_of, unknown_kind, not_zero, bad_element, lacks_ranks, lacks_planes, lacks_room, reads, Progress, grown, placed, walked, steps_from}

-- Answers that are given.

pub same_given : {A : Type 0} (x y : A) → given x ≡ given y → x ≡ y
same_given x y e = cc

pub let_by : {A : Type 0} (t : Bool) (r : Refusal) (x : Answer A) (a : A) → unless t r x ≡ given a → (t ≡ false) × (x ≡ given a)
let_by true r x a e = absurd (let z : ◌≡◌ {A = ℕ} 0 1 = cc in omega arith)
let_by false r x a e = (refl, e)

pub both_given : {A B : Type 0} (x : Answer A) (f : A → Answer B) (b : B) → next x f ≡ given b → (a : A) × (x ≡ given a) × (f a ≡ given b)
both_given (given a) f b e = (a, refl, e)
both_given (refused r) f b e = absurd (let z : ◌≡◌ {A = ℕ} 0 1 = cc in omega arith)

-- a record that is read is the step of its bytes
pub read_is : (i : ℕ) (r : List ℕ) (x : Step) → reads i r ≡ given x → step_of r ≡ x
read_is i r x e = same_given (step_of r) x (let_by (bad_element r) _ _ x (let_by (not_zero r) _ _ x (let_by (unknown_kind r) _ _ x e).1).1).1

-- From one record to the next.
module _ (ranked : Bool) (bytes : List ℕ) (count i : ℕ) (t : Progress) (less : i < count) where
  unrolled :
      walked ranked bytes (count - i) i t
      ≡ next (reads i (record_at bytes i)) (λ x. next (placed ranked i x t) (λ u. walked ranked bytes (count - (i + 1)) (i + 1) u))
  unrolled = let e : count - i ≡ suc (count - (i + 1)) = omega arith in ap (λ n. walked ranked bytes n i t) e

  pub read_refused : (r : Refusal) → reads i (record_at bytes i) ≡ refused r → walked ranked bytes (count - i) i t ≡ refused r
  read_refused r e = unrolled ∙ ap (λ a. next a (λ x. next (placed ranked i x t) (λ u. walked ranked bytes (count - (i + 1)) (i + 1) u))) e

  module _ (x : Step) (read : reads i (record_at bytes i) ≡ given x) where
    place_answers : walked ranked bytes (count - i) i t ≡ next (placed ranked i x t) (λ u. walked ranked bytes (count - (i + 1)) (i + 1) u)
    place_answers = unrolled ∙ ap (λ a. next a (λ x. next (placed ranked i x t) (λ u. walked ranked bytes (count - (i + 1)) (i + 1) u))) read

    pub place_refused : (r : Refusal) → placed ranked i x t ≡ refused r → walked ranked bytes (count - i) i t ≡ refused r
    place_refused r e = place_answers ∙ ap (λ a. next a (λ u. walked ranked bytes (count - (i + 1)) (i + 1) u)) e

    pub place_given :
        (u : Progress) → placed ranked i x t ≡ given u →
        walked ranked bytes (count - i) i t ≡ walked ranked bytes (count - (i + 1)) (i + 1) u
    place_given u e = place_answers ∙ ap (λ a. next a (λ u. walked ranked bytes (count - (i + 1)) (i + 1) u)) e

-- one step more at the end
pub steps_push : (bytes : List ℕ) (n i : ℕ) → steps_from bytes (suc n) i ≡ steps_from bytes n i ++ (step_of (record_at bytes (i + n)) ∷ [])
steps_push bytes zero i = let e : i ≡ i + 0 = omega arith in ap (λ j. step_of (record_at bytes j) ∷ []) e
steps_push bytes (suc n) i =
    let e : i + 1 + n ≡ i + suc n = omega arith in
    ap (λ xs. step_of (record_at bytes i) ∷ xs)
    (steps_push bytes n (i + 1) ∙ ap (λ j. steps_from bytes n (i + 1) ++ (step_of (record_at bytes j) ∷ [])) e)

pub steps_next :
    (bytes : List ℕ) (steps : List Step) (i : ℕ) (x : Step) → i < length steps → step_of (record_at bytes i) ≡ x →
    take i steps ≡ steps_from bytes i 0 → take (i + 1) (set steps i x) ≡ steps_from bytes (i + 1) 0
steps_next bytes steps i x l e h =
    let z : 0 + i ≡ i = omega arith in
    take_more_set steps i x l
    ∙ (ap₂ (λ xs y. xs ++ (y ∷ [])) h (sym e)
    ∙ (ap (λ j. steps_from bytes i 0 ++ (step_of (record_at bytes j) ∷ [])) (sym z) ∙ (sym (steps_push bytes i 0) ∙ ap (λ n. steps_from bytes n 0) (sym (add-one i)))))

-- The depth.

pub by_form_length : {A : Type 0} (M : Machine A) (f : Form) (st : List A) → wants f ≤ length st → length (by_form M f st) ≡ deeper f (length st)
by_form_length M start st l = sym (add-one (length st))
by_form_length M (change c) [] l = absurd (let z : ⊥ = omega arith in z)
by_form_length M (change c) (a ∷ st) l = refl
by_form_length M (merge m) [] l = absurd (let z : ⊥ = omega arith in z)
by_form_length M (merge m) (a ∷ []) l = absurd (let z : ⊥ = omega arith in z)
by_form_length M (merge m) (a ∷ b ∷ st) l = omega arith

deeper_some : (f : Form) (d : ℕ) → wants f ≤ d → 1 ≤ deeper f d
deeper_some start d l = omega arith
deeper_some (change c) d l = l
deeper_some (merge m) d l = omega arith

deeper_low : (f : Form) (d : ℕ) → (adds f && leb 4 d) ≡ false → d ≤ 4 → deeper f d ≤ 4
deeper_low start d h l = omega (arith, leb-false 4 d h)
deeper_low (change c) d h l = l
deeper_low (merge m) d h l = omega arith

-- what is known where a step is placed
pub record Places (ranked : Bool) (x : Step) (t u : Progress) : Type 0 where
  pub ranks : lacks_ranks ranked x ≡ false
  pub planes : wants (form x) ≤ length t.entries
  pub room : lacks_room (length t.entries) x ≡ false
  pub grows : grown x t ≡ u

pub places : (ranked : Bool) (i : ℕ) (x : Step) (t u : Progress) → placed ranked i x t ≡ given u → Places ranked x t u
places ranked i x t u e =
    let d = length t.entries in
    let a = let_by (lacks_ranks ranked x) _ _ u e in
    let b = let_by (lacks_planes d x) _ _ u a.1 in
    let c = let_by (lacks_room d x) _ (given (grown x t)) u b.1 in
    record { ranks = a.0; planes = ltb-false _ _ b.0; room = c.0; grows = same_given (grown x t) u c.1 }

module _ {ranked : Bool} {x : Step} {t u : Progress} (h : Places ranked x t u) where
  pub placed_depth : length u.entries ≡ deeper (form x) (length t.entries)
  placed_depth = ap (λ v. length v.entries) (sym h.grows) ∙ by_form_length on_entries (form x) t.entries h.planes

  pub placed_planes : u.planes ≡ max t.planes (deeper (form x) (length t.entries))
  placed_planes =
      ap (λ v. v.planes) (sym h.grows) ∙ ap (max t.planes) (by_form_length on_entries (form x) t.entries h.planes)

  pub placed_some : 1 ≤ length u.entries
  placed_some = omega (arith, placed_depth, deeper_some (form x) (length t.entries) h.planes)

has_ranks : (a b : Bool) → (a && not b) ≡ false → (not a || b) ≡ true
has_ranks true true e = refl
has_ranks true false e = sym e
has_ranks false b e = refl

-- A recipe that passes.

-- the stack is never deeper than four, and its greatest depth never falls
pub record Low (t : Progress) : Type 0 where
  pub depth : length t.entries ≤ 4
  pub planes : t.planes ≤ 4

-- the walk from t to u, over the steps
pub record Walk (ranked : Bool) (xs : List Step) (t u : Progress) : Type 0 where
  pub rises : t.planes ≤ u.planes
  pub runs_on : (p : ℕ) → u.planes ≤ p → length u.entries ≡ 1 → runs ranked p (length t.entries) xs ≡ true
  pub low : Low t → Low u
  pub some : 1 ≤ length t.entries → 1 ≤ length u.entries
  pub covers : length t.entries ≤ t.planes → length u.entries ≤ u.planes

walk_one : {ranked : Bool} {x : Step} {xs : List Step} {t u v : Progress} → Places ranked x t v → Walk ranked xs v u → Walk ranked (x ∷ xs) t u
walk_one {ranked} {x} {xs} {t} {u} {v} h w = record {
  rises = omega (arith, w.rises, placed_planes h);
  runs_on = λ p l one.
      let d = placed_depth h in
      let deep : deeper (form x) (length t.entries) ≤ p = omega (arith, w.rises, placed_planes h) in
      and_from _ _ (has_ranks (reads_ranks (form x)) ranked h.ranks)
      (and_from _ _ (le-leb _ _ h.planes)
      (and_from _ _ (le-leb _ _ deep) (subst (λ n. runs ranked p n xs ≡ true) d (w.runs_on p l one))));
  low = λ l.
      let deep = deeper_low (form x) (length t.entries) h.room l.depth in
      w.low (record { depth = omega (arith, placed_depth h); planes = omega (arith, placed_planes h, l.planes) });
  some = λ _. w.some (placed_some h);
  covers = λ _. w.covers (omega (arith, placed_depth h, placed_planes h));
}

pub walk : (ranked : Bool) (bytes : List ℕ) (n i : ℕ) (t u : Progress) → walked ranked bytes n i t ≡ given u → Walk ranked (steps_from bytes n i) t u
walk ranked bytes zero i t u e =
    subst (Walk ranked [] t) (same_given t u e)
    (record { rises = omega arith; runs_on = λ p l one. eq-eqb _ 1 one; low = λ l. l; some = λ l. l; covers = λ l. l })
walk ranked bytes (suc n) i t u e =
    let r = both_given (reads i (record_at bytes i)) _ u e in
    let p = both_given (placed ranked i r.0 t) _ u r.2 in
    let is = read_is i (record_at bytes i) r.0 r.1 in
    walk_one (subst (λ x. Places ranked x t p.0) (sym is) (places ranked i r.0 t p.0 p.1)) (walk ranked bytes n (i + 1) p.0 u p.2)

-- from the first record on there is a plane
pub walk_some : (ranked : Bool) (bytes : List ℕ) (n i : ℕ) (t u : Progress) → walked ranked bytes (suc n) i t ≡ given u → 1 ≤ length u.entries
walk_some ranked bytes n i t u e =
    let r = both_given (reads i (record_at bytes i)) _ u e in
    let p = both_given (placed ranked i r.0 t) _ u r.2 in
    (walk ranked bytes n (i + 1) p.0 u p.2).some (placed_some (places ranked i r.0 t p.0 p.1))
