-- What the steps do to a stack of planes.
use Rattle.std.proofs.Common.{◌≡◌, ℕ, ◌+◌, ◌-◌, ◌*◌, ◌<◌, ◌≤◌, List, [], ◌∷◌, length, get_or, sym, refl, ap, ◌∙◌, subst, inl, mul-le-mul_right, arith}
use Rattle.level.specs.Kind.{Kind}
use Rattle.rule.specs.Criterion.{Criterion}
use Rattle.recipe.specs.Steps.{Change, negation, Merge, Form, start, change, merge, wants, adds}
use Rattle.recipe.specs.Machines.{by_form}
use Rattle.steps.specs.Images.{Size, Image, negative}
use Rattle.steps.specs.Recipes.{on_planes, changed, merged}
use Rattle.steps.specs.Planes.{places, index, Holds, Outside, Apart, Copied, Made, Changed, Merged}
use Rattle.steps.specs.Stacks.{plane_at, Stacked, Ready, Applied}
use Rattle.steps.proofs.Written.{index_fits}

-- Where the planes of n levels are, on a stack of some depth among so many planes.
pub record Spread (planes depth n long : ℕ) : Type 0 where
  pub scratch_fits : (planes + 1) * n + n ≤ long
  pub below_scratch : depth * n + n ≤ (planes + 1) * n
  pub above_frame : 1 ≤ depth → n ≤ depth * n
  pub two_above : 2 ≤ depth → n + n ≤ depth * n
  pub next_below : depth < planes → depth * n + n + n ≤ (planes + 1) * n

pub spread : (planes depth n long : ℕ) → (2 + planes) * n ≤ long → depth ≤ planes → Spread planes depth n long
spread planes depth n long room low = record {
  scratch_fits = omega arith;
  below_scratch = omega (arith, mul-le-mul_right n low);
  above_frame = λ h. omega (arith, mul-le-mul_right n h);
  two_above = λ h. omega (arith, mul-le-mul_right n h);
  next_below = λ h. omega (arith, mul-le-mul_right n h);
}

module _ (K : Kind) {X : Type 0} (m : X → K.Level) (s : Size) where
  -- a plane whose levels are as they were holds the image that it held
  holds_still : (before after : List X) (at : ℕ) (f : Image K) → ((k : ℕ) (d : X) → at ≤ k → k < at + places s → get_or after k d ≡ get_or before k d) →
      Holds K m s before at f → Holds K m s after at f
  holds_still before after at f still held p d i =
      let fits = index_fits s p i in ap m (still (at + index s p) d (omega arith) (omega arith)) ∙ held p d i

  -- and so does a stack
  stack_still : (before after : List X) (st : List (Image K)) → ((k : ℕ) (d : X) → places s ≤ k → k < plane_at s (1 + length st) → get_or after k d ≡ get_or before k d) →
      Stacked K m s before st → Stacked K m s after st
  stack_still before after [] still held = tt
  stack_still before after (f ∷ st) still held = (
    holds_still before after (plane_at s (1 + length st)) f (λ k d lo hi. still k d (omega arith) (omega arith)) held.0,
    stack_still before after st (λ k d lo hi. still k d lo (omega arith)) held.1,
  )

  module _ (C : Criterion) (planes depth : ℕ) (before after : List X) (long : ℕ) where
    -- where the top plane of a stack begins
    at_top : (k : ℕ) → 1 + k ≡ depth → plane_at s (1 + k) ≡ depth * places s
    at_top k e = ap (λ l. l * places s) e

    started_there : Ready K s start planes depth long → Copied 0 (depth * places s + places s) (places s) before after → Applied K m C s start planes depth before after
    started_there ready copied =
        let room = spread planes depth (places s) long ready.room ready.low in
        let next = room.next_below (ready.lower refl) in
        record {
          stack = λ f st len frame held.
              let here : plane_at s (1 + length st) ≡ depth * places s + places s = omega (arith, ap (λ l. l * places s) len) in (
                subst (λ at. Holds K m s after at f) (sym here)
                    (λ p d i. ap m (copied.same (index s p) d (index_fits s p i)) ∙ frame p d i),
                stack_still before after st (λ k d lo hi. copied.kept k d (omega arith)) held,
              );
          kept = λ k d out off. copied.kept k d (λ lo hi. out (omega arith) (omega arith));
          frame = λ k d lt. copied.kept k d (omega arith);
          beyond = λ k d far. copied.kept k d (omega arith);
        }

    changed_there : (c : Change) → Ready K s (change c) planes depth long →
        Changed K m s (changed K C s c) (depth * places s) ((planes + 1) * places s) before after → Applied K m C s (change c) planes depth before after
    changed_there c ready did =
        let room = spread planes depth (places s) long ready.room ready.low in
        let above = room.above_frame ready.deep in
        record {
          stack = λ f st len frame held. go f st len held;
          kept = λ k d out off. did.kept k d out (λ lo hi. off (omega arith) (omega arith));
          frame = λ k d lt. did.kept k d (omega arith) (omega arith);
          beyond = λ k d far. did.kept k d (omega arith) (omega arith);
        }
      where
        go : (f : Image K) (st : List (Image K)) → length st ≡ depth → Stacked K m s before st → Stacked K m s after (by_form (on_planes K C s f) (change c) st)
        go f [] len held = absurd (let deep = ready.deep in let no : ⊥ = omega arith in no)
        go f (a ∷ st) len held =
            let room = spread planes depth (places s) long ready.room ready.low in
            let here = at_top (length st) (omega arith) in (
              subst (λ at. Holds K m s after at (changed K C s c a)) (sym here) (did.made a (subst (λ at. Holds K m s before at a) here held.0)),
              stack_still before after st (λ k d lo hi. did.kept k d (omega arith) (omega arith)) held.1,
            )

    merged_there : (g : Merge) → Ready K s (merge g) planes depth long →
        Merged K m s (merged K g) (depth * places s - places s) (depth * places s) before after → Applied K m C s (merge g) planes depth before after
    merged_there g ready did =
        let room = spread planes depth (places s) long ready.room ready.low in
        let above = room.two_above ready.deep in
        let deep = ready.deep in
        let over : 1 + (depth - 1) ≡ depth = omega arith in
        let below : plane_at s (depth - 1) ≡ depth * places s - places s = omega (arith, ap (λ l. l * places s) over) in
        record {
          stack = λ f st len frame held. go f st len held;
          kept = λ k d out off. did.kept k d (subst (λ at. Outside at (places s) k) below out);
          frame = λ k d lt. did.kept k d (omega arith);
          beyond = λ k d far. did.kept k d (omega arith);
        }
      where
        go : (f : Image K) (st : List (Image K)) → length st ≡ depth → Stacked K m s before st → Stacked K m s after (by_form (on_planes K C s f) (merge g) st)
        go f [] len held = absurd (let deep = ready.deep in let no : ⊥ = omega arith in no)
        go f (a ∷ []) len held = absurd (let deep = ready.deep in let no : ⊥ = omega arith in no)
        go f (a ∷ b ∷ st) len held =
            let upper = at_top (length {A = Image K} (b ∷ st)) (omega arith) in
            let lower : plane_at s (1 + length st) ≡ depth * places s - places s = omega (arith, upper) in (
              subst (λ at. Holds K m s after at (merged K g b a)) (sym lower)
                  (did.made b a (subst (λ at. Holds K m s before at b) lower held.1.0) (subst (λ at. Holds K m s before at a) upper held.0)),
              stack_still before after st (λ k d lo hi. did.kept k d (omega (arith, lower))) held.1.1,
            )

-- The same of a step that has this form, in the code's words: n is the number of places.
module _ {K : Kind} {X : Type 0} {m : X → K.Level} {s : Size} {C : Criterion} {F : Form} {planes depth long n : ℕ} {before after : List X} (e : n ≡ places s) (ready : Ready K s F planes depth long) where
  pub started : F ≡ start → Copied 0 (depth * n + n) n before after → Applied K m C s F planes depth before after
  started is did = subst (λ F. Applied K m C s F planes depth before after) (sym is)
      (started_there K m s C planes depth before after long (subst (λ F. Ready K s F planes depth long) is ready) (subst (λ n. Copied 0 (depth * n + n) n before after) e did))

  pub changed_top : (c : Change) → F ≡ change c → Changed K m s (changed K C s c) (depth * n) ((planes + 1) * n) before after → Applied K m C s F planes depth before after
  changed_top c is did = subst (λ F. Applied K m C s F planes depth before after) (sym is)
      (changed_there K m s C planes depth before after long c (subst (λ F. Ready K s F planes depth long) is ready)
      (subst (λ n. Changed K m s (changed K C s c) (depth * n) ((planes + 1) * n) before after) e did))

  pub negated_top : F ≡ change negation → Made K m s (negative K) (depth * n) (depth * n) before after → Applied K m C s F planes depth before after
  negated_top is did = changed_top negation is (record { made = did.made; kept = λ k d out off. did.kept k d out })

  pub merged_top : (g : Merge) (lower : ℕ) → F ≡ merge g → lower ≡ depth * n - n → Merged K m s (merged K g) lower (depth * n) before after → Applied K m C s F planes depth before after
  merged_top g lower is below did = subst (λ F. Applied K m C s F planes depth before after) (sym is)
      (merged_there K m s C planes depth before after long g (subst (λ F. Ready K s F planes depth long) is ready)
      (subst (λ n. Merged K m s (merged K g) (depth * n - n) (depth * n) before after) e (subst (λ at. Merged K m s (merged K g) at (depth * n) before after) below did)))

-- What the steps require of the planes.
module _ {K : Kind} {s : Size} {F : Form} {planes depth long n : ℕ} (e : n ≡ places s) (ready : Ready K s F planes depth long) where
  facts : Spread planes depth n long
  facts = spread planes depth n long (subst (λ n. (2 + planes) * n ≤ long) (sym e) ready.room) ready.low

  pub top_fits : depth * n + n ≤ long
  top_fits = let k = facts in omega arith

  pub frame_apart : F ≡ start → Apart long 0 n (depth * n + n) n
  frame_apart is = let k = facts in let l = facts.next_below (ready.lower (ap adds is)) in record { first = omega arith; second = omega arith; apart = inl (omega arith) }

  pub scratch_apart : Apart long (depth * n) (places s) ((planes + 1) * n) (places s)
  scratch_apart = let k = facts in record { first = omega arith; second = omega arith; apart = inl (omega arith) }

  pub two_apart : (g : Merge) (lower : ℕ) → F ≡ merge g → lower ≡ depth * n - n → Apart long lower (places s) (depth * n) (places s)
  two_apart g lower is below = let k = facts in let l = facts.two_above (subst (λ F. wants F ≤ depth) is ready.deep) in record { first = omega arith; second = omega arith; apart = inl (omega arith) }
