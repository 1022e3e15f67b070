-- Lemmas, for the proofs of every rule: what the five numbers of a window are to each other.
use Rattle.std.specs.Prelude.{◌≡◌, ℕ, ◌+◌, ◌-◌, ◌*◌, ◌<◌, ◌≤◌, min, max, Bool, true, false, ◌||◌, T, List, [], ◌∷◌, ◌++◌, length, nat_le, refl}
use Rattle.std.proofs.Common.{sym, ap, subst, ◌∙◌, mul-le-mul_left, mul-le-mul_right, le_of_mul-le-mul_right, mul-le-mul, arith, le→leb, leb-false}
use Rattle.std.proofs.Math.Path.{subst⁻¹}
use Rattle.std.proofs.Math.Logic.Or
use Rattle.std.proofs.Math.Logic.{∥∥₁_elim, ∥∥₁_map}
use Rattle.std.proofs.Math.Nat.{le_total}
use Rattle.std.proofs.Math.Bridge.{le_prop}
use Rattle.std.specs.List.{AllByRecursion as Every}
use Rattle.rule.specs.Ranks.{Numbers, Made, Ranks, single, more, sum, squares, lowest_with, highest_with, lowest, highest, numbers}

-- Numbers. `omega` multiplies products out and takes each monomial as an unknown, so it is handed the facts that are to
-- be multiplied, multiplied.

-- of two numbers one is at most the other, as a test
pub either : (a b : ℕ) → T (nat_le a b || nat_le b a)
either a b = pick (nat_le a b) refl
  where
    pick : (c : Bool) → nat_le a b ≡ c → T (c || nat_le b a)
    pick true e = tt
    pick false e = le→leb b a (omega (arith, leb-false a b e))

-- a / x ≤ b / y and b / y ≤ c / z give a / x ≤ c / z
pub cross : (a x b y c z : ℕ) → 0 < y → a * y ≤ b * x → b * z ≤ c * y → a * z ≤ c * x
cross a x b y c z pos p q =
    let h : a * z * y ≤ c * x * y = omega (arith, mul-le-mul_right z p, mul-le-mul_right x q) in
    le_of_mul-le-mul_right h pos

twice_product_ordered : (a b : ℕ) → a ≤ b → 2 * (a * b) ≤ a * a + b * b
twice_product_ordered a b h =
    let d = b - a in
    let e : b ≡ a + d = omega arith in
    omega (arith, ap (λ x. a * x) e, ap (λ x. b * x) e, mul-le-mul_left d h)

-- 2 a b is at most a² + b²
pub twice_product : (a b : ℕ) → 2 * (a * b) ≤ a * a + b * b
twice_product a b =
    Or.elim le_prop (le_total a b) (twice_product_ordered a b) (λ h. let k = twice_product_ordered b a h in omega arith)

-- The sums.

sum_below : (t : ℕ) (rs : List ℕ) → Every (λ r. r ≤ t) rs → sum rs ≤ length rs * t
sum_below t [] _ = omega arith
sum_below t (r ∷ rs) h = let k = sum_below t rs h.1 in let l = h.0 in omega arith

squares_below : (t : ℕ) (rs : List ℕ) → Every (λ r. r ≤ t) rs → squares rs ≤ length rs * (t * t)
squares_below t [] _ = omega arith
squares_below t (r ∷ rs) h = let k = squares_below t rs h.1 in omega (arith, mul-le-mul h.0 h.0)

mixed : (r : ℕ) (rs : List ℕ) → 2 * (r * sum rs) ≤ length rs * (r * r) + squares rs
mixed r [] = omega arith
mixed r (x ∷ rs) = let k = mixed r rs in omega (arith, twice_product r x)

-- the square of the sum is never above the count times the sum of squares
pub spread : (rs : List ℕ) → sum rs * sum rs ≤ length rs * squares rs
spread [] = omega arith
spread (r ∷ rs) = let k = spread rs in omega (arith, mixed r rs)

-- The lowest and the highest rank.

lowest_sum : (a : ℕ) (rs : List ℕ) → lowest_with a rs * length rs ≤ sum rs
lowest_sum a [] = omega arith
lowest_sum a (r ∷ rs) =
    let k = lowest_sum a rs in
    let m : min r (lowest_with a rs) ≤ lowest_with a rs = omega arith in
    omega (arith, mul-le-mul_right (length rs) m)

highest_sum : (a : ℕ) (rs : List ℕ) → sum rs ≤ highest_with a rs * length rs
highest_sum a [] = omega arith
highest_sum a (r ∷ rs) =
    let k = highest_sum a rs in
    let m : highest_with a rs ≤ max r (highest_with a rs) = omega arith in
    omega (arith, mul-le-mul_right (length rs) m)

lowest_start : (a : ℕ) (rs : List ℕ) → lowest_with a rs ≤ a
lowest_start a [] = omega arith
lowest_start a (r ∷ rs) = let k = lowest_start a rs in omega arith

highest_start : (a : ℕ) (rs : List ℕ) → a ≤ highest_with a rs
highest_start a [] = omega arith
highest_start a (r ∷ rs) = let k = highest_start a rs in omega arith

highest_with_below : (t a : ℕ) (rs : List ℕ) → a ≤ t → Every (λ r. r ≤ t) rs → highest_with a rs ≤ t
highest_with_below t a [] h _ = h
highest_with_below t a (r ∷ rs) h k = let i = highest_with_below t a rs h k.1 in let l = k.0 in omega arith

-- a bound of the ranks is a bound of the highest
pub highest_below : (t : ℕ) (rs : List ℕ) → Every (λ r. r ≤ t) rs → highest rs ≤ t
highest_below t [] _ = omega arith
highest_below t (r ∷ rs) h = highest_with_below t r rs h.0 h.1

below_highest_with : (t a : ℕ) (rs : List ℕ) → highest_with a rs ≤ t → Every (λ r. r ≤ t) rs
below_highest_with t a [] _ = tt
below_highest_with t a (r ∷ rs) h = (omega arith, below_highest_with t a rs (omega arith))

-- and the other way round
pub below_highest : (t : ℕ) (rs : List ℕ) → highest rs ≤ t → Every (λ r. r ≤ t) rs
below_highest t [] _ = tt
below_highest t (r ∷ rs) h = let k = highest_start r rs in (omega arith, below_highest_with t r rs h)

lowest_with_above : (m a : ℕ) (rs : List ℕ) → m ≤ a → Every (λ r. m ≤ r) rs → m ≤ lowest_with a rs
lowest_with_above m a [] h _ = h
lowest_with_above m a (r ∷ rs) h k = let i = lowest_with_above m a rs h k.1 in let l = k.0 in omega arith

-- a lower bound of the ranks is one of the lowest
pub lowest_above : (m : ℕ) (rs : List ℕ) → 1 ≤ length rs → Every (λ r. m ≤ r) rs → m ≤ lowest rs
lowest_above m [] l h = absurd (let f : ⊥ = omega arith in f)
lowest_above m (r ∷ rs) l h = lowest_with_above m r rs h.0 h.1

-- What the numbers of a window are to each other.
pub record Shaped (w : Numbers) : Type 0 where
  pub some : 1 ≤ w.count
  pub few : w.count ≤ 25
  pub ordered : w.lowest ≤ w.highest
  pub ranked : w.highest ≤ 65535
  pub above : w.lowest * w.count ≤ w.sum
  pub below : w.sum ≤ w.highest * w.count
  pub summed : w.sum ≤ w.count * 65535
  pub squared : w.squares ≤ w.count * (65535 * 65535)
  pub spread : w.sum * w.sum ≤ w.count * w.squares

pub shaped : (rs : List ℕ) → Ranks 65535 rs → Shaped (numbers rs)
shaped [] h = absurd (let k = h.some in let f : ⊥ = omega arith in f)
shaped (r ∷ rs) h = record {
  some = h.some;
  few = h.few;
  ordered = omega (arith, lowest_start r rs, highest_start r rs);
  ranked = highest_below 65535 (r ∷ rs) h.below;
  above = omega (arith, lowest_sum r rs, lowest_start r rs);
  below = omega (arith, highest_sum r rs, highest_start r rs);
  summed = sum_below 65535 (r ∷ rs) h.below;
  squared = squares_below 65535 (r ∷ rs) h.below;
  spread = spread (r ∷ rs);
}

-- Windows of which only the numbers are known. What holds of the numbers of every list of ranks holds of them.

pub from_made : (P : Numbers → Type 0) → ((w : Numbers) → IsProp (P w)) → ((rs : List ℕ) → Ranks 65535 rs → P (numbers rs)) →
    (w : Numbers) → Made w → P w
from_made P one f w m = ∥∥₁_elim m (one w) (λ x. subst⁻¹ P x.2 (f x.0 x.1))

pub from_made₂ : (P : Numbers → Numbers → Type 0) → ((v w : Numbers) → IsProp (P v w)) →
    ((ps qs : List ℕ) → Ranks 65535 ps → Ranks 65535 qs → P (numbers ps) (numbers qs)) →
    (v w : Numbers) → Made v → Made w → P v w
from_made₂ P p f v w m n =
    from_made (λ x. P x w) (λ x. p x w) (λ ps h. from_made (P (numbers ps)) (p (numbers ps)) (λ qs k. f ps qs h k) w n) v m

pub made_shaped : (w : Numbers) → Made w → Shaped w
made_shaped = from_made Shaped
    (λ w x y i. record {
      some = le_prop x.some y.some i;
      few = le_prop x.few y.few i;
      ordered = le_prop x.ordered y.ordered i;
      ranked = le_prop x.ranked y.ranked i;
      above = le_prop x.above y.above i;
      below = le_prop x.below y.below i;
      summed = le_prop x.summed y.summed i;
      squared = le_prop x.squared y.squared i;
      spread = le_prop x.spread y.spread i;
    })
    shaped

-- the numbers of a list of ranks are a window's
pub made : (rs : List ℕ) → Ranks 65535 rs → Made (numbers rs)
made rs h = ∣ (rs, h, refl) ∣₁

-- One rank more.

sum_more : (rs : List ℕ) (r : ℕ) → sum (rs ++ (r ∷ [])) ≡ sum rs + r
sum_more [] r = omega arith
sum_more (x ∷ rs) r = let k = sum_more rs r in omega arith

squares_more : (rs : List ℕ) (r : ℕ) → squares (rs ++ (r ∷ [])) ≡ squares rs + r * r
squares_more [] r = omega arith
squares_more (x ∷ rs) r = let k = squares_more rs r in omega arith

length_more : (rs : List ℕ) (r : ℕ) → length (rs ++ (r ∷ [])) ≡ length rs + 1
length_more [] r = refl
length_more (x ∷ rs) r = let k = length_more rs r in omega arith

lowest_more : (a : ℕ) (rs : List ℕ) (r : ℕ) → lowest_with a (rs ++ (r ∷ [])) ≡ min (lowest_with a rs) r
lowest_more a [] r = omega arith
lowest_more a (x ∷ rs) r = let k = lowest_more a rs r in omega arith

highest_more : (a : ℕ) (rs : List ℕ) (r : ℕ) → highest_with a (rs ++ (r ∷ [])) ≡ max (highest_with a rs) r
highest_more a [] r = omega arith
highest_more a (x ∷ rs) r = let k = highest_more a rs r in omega arith

below_more : (t : ℕ) (rs : List ℕ) (r : ℕ) → Every (λ x. x ≤ t) rs → r ≤ t → Every (λ x. x ≤ t) (rs ++ (r ∷ []))
below_more t [] r _ h = (h, tt)
below_more t (x ∷ rs) r k h = (k.0, below_more t rs r k.1 h)

-- `single` and `more` give the numbers of the ranks so far
pub numbers_single : (r : ℕ) → single r ≡ numbers (r ∷ [])
numbers_single r =
    let s : r ≡ r + 0 = omega arith in
    let q : r * r ≡ r * r + 0 = omega arith in
    λ i. record { count = 1; sum = s i; squares = q i; lowest = r; highest = r }

pub numbers_more : (rs : List ℕ) (r : ℕ) → 1 ≤ length rs → more (numbers rs) r ≡ numbers (rs ++ (r ∷ []))
numbers_more [] r h = absurd (let f : ⊥ = omega arith in f)
numbers_more (x ∷ rs) r _ = λ i. record {
  count = sym (length_more (x ∷ rs) r) i;
  sum = sym (sum_more (x ∷ rs) r) i;
  squares = sym (squares_more (x ∷ rs) r) i;
  lowest = sym (lowest_more x rs r) i;
  highest = sym (highest_more x rs r) i;
}

pub ranks_single : (t r : ℕ) → r ≤ t → Ranks t (r ∷ [])
ranks_single t r h = record { some = omega arith; few = omega arith; below = (h, tt) }

pub ranks_more : (t : ℕ) (rs : List ℕ) (r : ℕ) → Ranks t rs → length rs < 25 → r ≤ t → Ranks t (rs ++ (r ∷ []))
ranks_more t rs r w l h = record {
  some = let e = length_more rs r in omega arith;
  few = let e = length_more rs r in omega arith;
  below = below_more t rs r w.below h;
}

pub made_single : (r : ℕ) → r ≤ 65535 → Made (single r)
made_single r h = ∣ (r ∷ [], ranks_single 65535 r h, numbers_single r) ∣₁

pub made_more : (w : Numbers) (r : ℕ) → Made w → w.count < 25 → r ≤ 65535 → Made (more w r)
made_more w r m l h =
    ∥∥₁_map m (λ x.
    let rs = x.0 in
    let few : length rs < 25 = subst (λ v. v.count < 25) x.2 l in
    (rs ++ (r ∷ []), ranks_more 65535 rs r x.1 few h, ap (λ v. more v r) x.2 ∙ numbers_more rs r x.1.some))
