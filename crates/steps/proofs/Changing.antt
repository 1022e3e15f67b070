-- Planes that one step after another works on.
use Rattle.std.proofs.Common.{◌≡◌, ℕ, zero, suc, ◌<◌, Bool, ◌&&◌, List, refl, ap, ◌∙◌, subst, arith}
use Rattle.level.specs.declared.side.Side.{Side}
use Rattle.level.specs.Sides.{opposite}
use Rattle.level.specs.Kind.{Kind}
use Rattle.recipe.specs.Elements.{Offsets, gather, turned}
use Rattle.steps.specs.Images.{Size, Place, Image, lands, folded, filtered}
use Rattle.steps.specs.Planes.{places, index, Holds, Copied, Made, Changed}
use Rattle.steps.proofs.Written.{index_fits}

-- what is gathered depends only on the first n tests
pub gather_takes : {A : Type 0} (op : A → A → A) (none : A) (takes takes' : ℕ → Bool) (value : ℕ → A) (n : ℕ) → ((b : ℕ) → b < n → takes b ≡ takes' b) →
    gather op none takes value n ≡ gather op none takes' value n
unfolding gather
gather_takes op none takes takes' value zero same = refl
gather_takes op none takes takes' value (suc n) same =
    let before = gather_takes op none takes takes' value n (λ b h. same b (omega arith)) in
    let here = same n (omega arith) in
    cc

-- a fold depends only on the offsets
pub folded_offsets : (K : Kind) (s : Size) (side : Side) (E F : Offsets) (f : Image K) (p : Place) → ((b : ℕ) → b < 25 → E b ≡ F b) →
    folded K s side E f p ≡ folded K s side F f p
folded_offsets K s side E F f p same = gather_takes _ _ _ _ _ 25 (λ b h. ap (λ t. t && lands s p b) (same b h))

module _ (K : Kind) {X : Type 0} (m : X → K.Level) (s : Size) where
  pub holds_same : (block : List X) (at : ℕ) (f g : Image K) → ((p : Place) → f p ≡ g p) → Holds K m s block at f → Holds K m s block at g
  holds_same block at f g same held p d i = held p d i ∙ same p

  pub holds_copied : {from to : ℕ} {before after : List X} (f : Image K) → Copied from to (places s) before after → Holds K m s before from f → Holds K m s after to f
  holds_copied f copied held p d i = ap m (copied.same (index s p) d (index_fits s p i)) ∙ held p d i

module _ {K : Kind} {X : Type 0} {m : X → K.Level} {s : Size} where
  -- made in the scratch plane, by the element turned, and from there the way back
  pub made_filtered : {at scratch : ℕ} {before between after : List X} (side back : Side) (E F : Offsets) → back ≡ opposite side → ((b : ℕ) → b < 25 → F b ≡ turned E b) →
      Made K m s (folded K s side F) at scratch before between → Made K m s (folded K s back E) scratch at between after → Changed K m s (filtered K s side E) at scratch before after
  made_filtered {at} {scratch} {before} {between} {after} side back E F against same one two =
      let first = folded K s side (turned E) in
      let second = subst (λ d. Made K m s (folded K s d E) scratch at between after) against two in
      record {
        made = λ f held. second.made (first f) (holds_same K m s between scratch (folded K s side F f) (first f) (λ p. folded_offsets K s side F (turned E) f p same) (one.made f held));
        kept = λ k d out off. second.kept k d out ∙ one.kept k d off;
      }
