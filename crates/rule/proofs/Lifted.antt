-- The laws of a rule at the numbers of any window: `Made` hides the list of ranks, and each law is a proposition, so the
-- list may be taken out of hiding.
use Rattle.std.proofs.Common.{◌≡◌, ℕ, ◌*◌, ◌≤◌, ◌||◌, T, List, sym, ap, ◌∙◌, subst, ap₂}
use mathlib.Core.Bool.{Bool-set}
use mathlib.Core.HLevel.{Π_prop}
use mathlib.Core.Logic.{∥∥₁_map}
use native.Mathlib.Bridge.{le_prop}
use native.Mathlib.Nat.{ℕ_set}
use lib.Dec.{T_prop}
use Rattle.rule.specs.Ranks.{Numbers, Made, Ranks, numbers, highest, flipped, flipped_numbers}
use Rattle.rule.specs.Fractions.{SumTo}
use Rattle.rule.specs.Criterion.{Criterion, Laws}
use Rattle.rule.specs.Windows.{below_highest, from_made, from_made₂}
use Rattle.rule.specs.Flipped.{wider, ranks_flipped, numbers_flipped}

-- ranks of which the highest is at most t
up_to : (t : ℕ) (rs : List ℕ) → Ranks 65535 rs → highest rs ≤ t → Ranks t rs
up_to t rs h l = record { some = h.some; few = h.few; below = below_highest t rs l }

pub made_flips : (t : ℕ) → t ≤ 65535 → (w : Numbers) → Made w → w.highest ≤ t → Made (flipped_numbers t w)
made_flips t small w m l =
    ∥∥₁_map m (λ x.
    let rs = x.0 in
    let h = up_to t rs x.1 (subst (λ v. v.highest ≤ t) x.2 l) in
    (flipped t rs, wider t 65535 (flipped t rs) small (ranks_flipped t rs h), ap (flipped_numbers t) x.2 ∙ sym (numbers_flipped t rs h)))

module _ (C : Criterion) where
  total : (v w : Numbers) → Made v → Made w → T (C.prefers v w || C.prefers w v)
  total = from_made₂ (λ v w. T (C.prefers v w || C.prefers w v)) (λ v w. T_prop _) C.total

  transitive : (u v w : Numbers) → Made u → Made v → Made w → T (C.prefers u v) → T (C.prefers v w) → T (C.prefers u w)
  transitive u v w l m n =
      from_made₂ (λ u v. T (C.prefers u v) → T (C.prefers v w) → T (C.prefers u w)) (λ u v. Π_prop (λ _. Π_prop (λ _. T_prop _)))
      (λ ps qs h k. from_made (λ w. T (C.prefers (numbers ps) (numbers qs)) → T (C.prefers (numbers qs) w) → T (C.prefers (numbers ps) w))
      (λ w. Π_prop (λ _. Π_prop (λ _. T_prop _))) (λ rs i. C.transitive ps qs rs h k i) w n)
      u v l m

  module _ (t : ℕ) (small : t ≤ 65535) where
    fair : (v w : Numbers) → Made v → Made w → v.highest ≤ t → w.highest ≤ t →
        C.prefers (flipped_numbers t v) (flipped_numbers t w) ≡ C.prefers v w
    fair = from_made₂ (λ v w. v.highest ≤ t → w.highest ≤ t → C.prefers (flipped_numbers t v) (flipped_numbers t w) ≡ C.prefers v w)
        (λ v w. Π_prop (λ _. Π_prop (λ _. Bool-set _ _)))
        (λ ps qs h k i j.
        let a = up_to t ps h i in
        let b = up_to t qs k j in
        sym (ap₂ C.prefers (numbers_flipped t ps a) (numbers_flipped t qs b)) ∙ C.fair t small ps qs a b)

    fair_value : (w : Numbers) → Made w → w.highest ≤ t → SumTo t (C.value (flipped_numbers t w)) (C.value w)
    fair_value = from_made (λ w. w.highest ≤ t → SumTo t (C.value (flipped_numbers t w)) (C.value w))
        (λ w. Π_prop (λ _. ℕ_set _ _))
        (λ rs h l.
        let a = up_to t rs h l in
        subst (λ v. SumTo t (C.value v) (C.value (numbers rs))) (numbers_flipped t rs a) (C.fair_value t small rs a))

-- the laws hold of every window that ranks can make
pub laws : (C : Criterion) → Laws C
laws C = record {
  total = total C;
  transitive = transitive C;
  positive = from_made (λ w. 1 ≤ (C.value w).den) (λ w. le_prop) C.positive;
  small = from_made (λ w. (C.value w).den ≤ 1000) (λ w. le_prop) C.small;
  not_below = from_made (λ w. w.lowest * (C.value w).den ≤ (C.value w).num) (λ w. le_prop) C.not_below;
  not_above = from_made (λ w. (C.value w).num ≤ w.highest * (C.value w).den) (λ w. le_prop) C.not_above;
  flips = made_flips;
  fair = fair C;
  fair_value = fair_value C;
}
