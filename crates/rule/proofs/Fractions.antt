-- Fractions with a positive denominator: order, distance from a number, rounding, and the exchange of q for t - q.
use Rattle.std.proofs.Common.{◌≡◌, ℕ, ◌+◌, ◌-◌, ◌*◌, ◌<◌, ◌≤◌, ap, ◌∙◌, mul-le-mul_right, mul_comm, lt_of_mul-lt-mul_right, mul-lt-mul_of_pos_right, mul-pos, le_of_mul-le-mul_right, arith}
use native.Mathlib.Nat.{mul-sub}
use native.Mathlib.Decide.{dec_lt}
use Rattle.rule.specs.Windows.{cross}
use Rattle.rule.specs.Fractions.{Fraction, Equal, AtMost, SumTo, away, rounded, Rounded}
use Rattle.level.specs.Sides.{opposite}
use Rattle.level.specs.declared.side.Side.{Side}
use Rattle.level.specs.declared.side.Side.TheVariants.{Low, High}

-- Order.

pub at_most_through : (a b c : Fraction) → 1 ≤ b.den → AtMost a b → AtMost b c → AtMost a c
at_most_through a b c h p q = cross a.num a.den b.num b.den c.num c.den h p q

pub equal_at_most : (a b : Fraction) → Equal a b → AtMost a b
equal_at_most a b e = omega arith

pub equal_at_least : (a b : Fraction) → Equal a b → AtMost b a
equal_at_least a b e = omega arith

-- equal fractions compare alike
pub same_order : (a b a' b' : Fraction) → 1 ≤ a.den → 1 ≤ b.den → Equal a' a → Equal b' b → AtMost a b → AtMost a' b'
same_order a b a' b' p q e f h =
    at_most_through a' b b' q (at_most_through a' a b p (equal_at_most a' a e) h) (equal_at_least b' b f)

-- Distance from a number.

sub_times : (a b d : ℕ) → (a - b) * d ≡ a * d - b * d
sub_times a b d = mul_comm (a - b) d ∙ mul-sub d a b ∙ (let e = mul_comm d a in let f = mul_comm d b in omega arith)

away_times : (x : ℕ) (a : Fraction) (e : ℕ) → (away x a).num * e ≡ (a.num * e - x * a.den * e) + (x * a.den * e - a.num * e)
away_times x a e = omega (arith, sub_times a.num (x * a.den) e, sub_times (x * a.den) a.num e)

-- b = t - a is as far from t - x as a is from x
pub away_flipped : (t x : ℕ) (a b : Fraction) → x ≤ t → SumTo t b a → Equal (away (t - x) b) (away x a)
away_flipped t x a b h e =
    let u = t - x in
    let s : t ≡ u + x = omega arith in
    omega (arith, away_times u b a.den, away_times x a b.den, ap (λ z. z * (a.den * b.den)) s)

-- the order is turned round
pub order_flipped : (t : ℕ) (a b a' b' : Fraction) → 1 ≤ a.den → 1 ≤ b.den → SumTo t a' a → SumTo t b' b → AtMost a b → AtMost b' a'
order_flipped t a b a' b' p q e f h =
    let g : b'.num * a'.den * (a.den * b.den) ≤ a'.num * b'.den * (a.den * b.den)
    = omega (arith, ap (λ z. z * (a'.den * a.den)) f, ap (λ z. z * (b'.den * b.den)) e, mul-le-mul_right (a'.den * b'.den) h) in
    le_of_mul-le-mul_right g (mul-pos p q)

-- Rounding.

pub rounded_nearest : (side : Side) (a : Fraction) → 1 ≤ a.den → Rounded side a (rounded side a)
rounded_nearest Low a h = omega arith
rounded_nearest High a h = omega arith

-- k < j fails where j is the rounding of a and k that of b, and a ≤ b
not_above : (side : Side) (a b : Fraction) (j k : ℕ) → 1 ≤ a.den → 1 ≤ b.den → AtMost a b → Rounded side a j → Rounded side b k → k < j → ⊥
not_above Low a b j k pa pb h p q l =
    omega (arith, mul-lt-mul_of_pos_right p.0 pb, mul-le-mul_right a.den q.1, mul-le-mul_right (a.den * b.den) l)
not_above High a b j k pa pb h p q l =
    omega (arith, mul-le-mul_right b.den p.0, mul-lt-mul_of_pos_right q.1 pa, mul-le-mul_right (a.den * b.den) l)

pub rounded_order : (side : Side) (a b : Fraction) (j k : ℕ) → 1 ≤ a.den → 1 ≤ b.den → AtMost a b → Rounded side a j → Rounded side b k → j ≤ k
rounded_order side a b j k pa pb h p q =
    elim (dec_lt k j) [ yes l ↦ absurd (not_above side a b j k pa pb h p q l) | no n ↦ omega arith ]

-- equal fractions have one rounding
pub rounded_one : (side : Side) (a b : Fraction) (j k : ℕ) → 1 ≤ a.den → 1 ≤ b.den → Equal a b → Rounded side a j → Rounded side b k → j ≡ k
rounded_one side a b j k pa pb e p q =
    let below = rounded_order side a b j k pa pb (equal_at_most a b e) p q in
    let above = rounded_order side b a k j pb pa (equal_at_least a b e) q p in
    omega arith

-- the fraction of a whole number
abbrev whole : ℕ → Fraction
whole r = record { num = r; den = 1 }

rounded_whole : (side : Side) (r : ℕ) → Rounded side (whole r) r
rounded_whole Low r = omega arith
rounded_whole High r = omega arith

-- a rounding keeps within whole bounds
pub rounded_between : (side : Side) (a : Fraction) (low high k : ℕ) → 1 ≤ a.den → low * a.den ≤ a.num → a.num ≤ high * a.den →
    Rounded side a k → (low ≤ k) × (k ≤ high)
rounded_between side a low high k pa l h p = (
  rounded_order side (whole low) a low k (omega arith) pa (omega arith) (rounded_whole side low) p,
  rounded_order side a (whole high) k high pa (omega arith) (omega arith) p (rounded_whole side high),
)

-- b = t - a, and t = j + k
module _ (t : ℕ) (a b : Fraction) (j k : ℕ) (pa : 0 < a.den) (pb : 0 < b.den) (s : t ≡ j + k) (e : SumTo t b a) where
  above_le : 2 * a.num ≤ (2 * k + 1) * a.den → 2 * j * b.den ≤ 2 * b.num + b.den
  above_le p =
      let g : 2 * j * b.den * a.den ≤ (2 * b.num + b.den) * a.den = omega (arith, ap (λ x. x * (a.den * b.den)) s, mul-le-mul_right b.den p) in
      le_of_mul-le-mul_right g pa

  above_lt : 2 * a.num < (2 * k + 1) * a.den → 2 * j * b.den < 2 * b.num + b.den
  above_lt p =
      let g : 2 * j * b.den * a.den < (2 * b.num + b.den) * a.den = omega (arith, ap (λ x. x * (a.den * b.den)) s, mul-lt-mul_of_pos_right p pb) in
      lt_of_mul-lt-mul_right a.den g

  below_le : 2 * k * a.den ≤ 2 * a.num + a.den → 2 * b.num ≤ (2 * j + 1) * b.den
  below_le p =
      let g : 2 * b.num * a.den ≤ (2 * j + 1) * b.den * a.den = omega (arith, ap (λ x. x * (a.den * b.den)) s, mul-le-mul_right b.den p) in
      le_of_mul-le-mul_right g pa

  below_lt : 2 * k * a.den < 2 * a.num + a.den → 2 * b.num < (2 * j + 1) * b.den
  below_lt p =
      let g : 2 * b.num * a.den < (2 * j + 1) * b.den * a.den = omega (arith, ap (λ x. x * (a.den * b.den)) s, mul-lt-mul_of_pos_right p pb) in
      lt_of_mul-lt-mul_right a.den g

-- when a becomes t - a and low and high are exchanged, the rounding k becomes t - k
pub rounded_flipped : (side : Side) (t : ℕ) (a b : Fraction) (k : ℕ) → 1 ≤ a.den → 1 ≤ b.den → k ≤ t → SumTo t b a →
    Rounded side a k → Rounded (opposite side) b (t - k)
rounded_flipped Low t a b k pa pb h e p =
    let s : t ≡ (t - k) + k = omega arith in
    (above_le t a b (t - k) k pa pb s e p.1, below_lt t a b (t - k) k pa pb s e p.0)
rounded_flipped High t a b k pa pb h e p =
    let s : t ≡ (t - k) + k = omega arith in
    (above_lt t a b (t - k) k pa pb s e p.1, below_le t a b (t - k) k pa pb s e p.0)
