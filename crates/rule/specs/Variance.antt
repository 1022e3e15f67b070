-- Least variance: the window whose ranks differ least from their mean is best, and its value is the mean.
use Rattle.std.specs.Prelude.{◌≡◌, ℕ, ◌-◌, ◌*◌, ◌≤◌, Bool, ◌||◌, T, leb, nat_le}
use Rattle.std.proofs.Common.{ap, ap₂, mul-pos, arith, leb→le, le→leb}
use Rattle.rule.specs.Ranks.{Numbers, numbers}
use Rattle.rule.specs.Fractions.{Fraction, SumTo}
use Rattle.rule.specs.Criterion.{Criterion}
use Rattle.rule.specs.Windows.{either, cross, shaped}
use Rattle.rule.specs.Flipped.{Flipped, flips}
use Rattle.rule.specs.Measures.{Value}

-- the variance is variation / count²
abbrev pub variation : Numbers → ℕ
variation w = w.count * w.squares - w.sum * w.sum

-- the variance of the first is at most that of the second
abbrev pub less_varied : Numbers → Numbers → Bool
less_varied v w = nat_le (variation v * (w.count * w.count)) (variation w * (v.count * v.count))

-- the mean
abbrev pub mean : Numbers → Fraction
mean w = record { num = w.sum; den = w.count }

pub less_varied_either : (v w : Numbers) → T (less_varied v w || less_varied w v)
less_varied_either v w = either (variation v * (w.count * w.count)) (variation w * (v.count * v.count))

pub less_varied_through : (u v w : Numbers) → 1 ≤ v.count → T (less_varied u v) → T (less_varied v w) → T (less_varied u w)
less_varied_through u v w h p q =
    le→leb _ _
    (cross (variation u) (u.count * u.count) (variation v) (v.count * v.count) (variation w) (w.count * w.count)
    (mul-pos h h) (leb→le _ _ p) (leb→le _ _ q))

-- n q' - s'² = n q - s², where q' and s' are squares and sum of the flipped window
pub same_variation : (t : ℕ) (w v : Numbers) → Flipped t w v → variation v ≡ variation w
same_variation t w v f =
    omega (arith, ap (λ n. n * v.squares) f.count, ap (λ z. w.count * z) f.squares, ap (λ z. z * v.sum) f.sum, ap (λ z. z * w.sum) f.sum, ap (λ z. z * (w.count * t)) f.sum)

pub mean_flipped : (t : ℕ) (w v : Numbers) → Flipped t w v → SumTo t (mean v) (mean w)
mean_flipped t w v f =
    omega (arith, ap (λ n. w.sum * n) f.count, ap (λ n. t * (n * w.count)) f.count, ap (λ z. z * w.count) f.sum)

-- the mean as a value
abbrev pub means : Value
means = record {
  of = mean;
  positive = λ w h. h.some;
  small = λ w h. omega (arith, h.few);
  not_below = λ w h. h.above;
  not_above = λ w h. h.below;
  fair = mean_flipped;
}

-- the rule
abbrev pub least_variance : Criterion
least_variance = record {
  prefers = less_varied;
  value = mean;
  total = λ ps qs _ _. less_varied_either (numbers ps) (numbers qs);
  transitive = λ ps qs rs _ h _. less_varied_through (numbers ps) (numbers qs) (numbers rs) h.some;
  positive = λ rs h. h.some;
  small = λ rs h. let k = h.few in omega arith;
  not_below = λ rs h. (shaped rs h).above;
  not_above = λ rs h. (shaped rs h).below;
  fair = λ t _ ps qs h k.
      let f = flips t ps h in
      let g = flips t qs k in
      ap₂ leb (ap₂ (λ d n. d * (n * n)) (same_variation t _ _ f) g.count) (ap₂ (λ d n. d * (n * n)) (same_variation t _ _ g) f.count);
  fair_value = λ t _ rs h. mean_flipped t _ _ (flips t rs h);
}
