-- Least range: the window whose lowest and highest rank differ least is best, and its value is their middle.
use Rattle.std.specs.Prelude.{◌≡◌, ℕ, ◌+◌, ◌-◌, Bool, leb, nat_le}
use Rattle.std.proofs.Common.{ap₂, arith, leb→le, le→leb}
use Rattle.rule.specs.Ranks.{Numbers, numbers}
use Rattle.rule.specs.Fractions.{Fraction, SumTo}
use Rattle.rule.specs.Criterion.{Criterion}
use Rattle.rule.specs.Windows.{either, shaped}
use Rattle.rule.specs.Flipped.{Flipped, flips}
use Rattle.rule.specs.Measures.{Measure, Value}

-- how far the ranks reach
abbrev pub range : Numbers → ℕ
range w = w.highest - w.lowest

-- the range of the first is at most that of the second
abbrev pub narrower : Numbers → Numbers → Bool
narrower v w = nat_le (range v) (range w)

-- the middle of the lowest and the highest rank
abbrev pub middle : Numbers → Fraction
middle w = record { num = w.lowest + w.highest; den = 2 }

pub same_range : (t : ℕ) (w v : Numbers) → Flipped t w v → range v ≡ range w
same_range t w v f = omega (arith, f.lowest, f.highest)

-- the middle of a flipped window
pub middle_flipped : (t : ℕ) (w v : Numbers) → Flipped t w v → SumTo t (middle v) (middle w)
middle_flipped t w v f = omega (arith, f.lowest, f.highest)

-- the range as a measure
abbrev pub ranges : Measure
ranges = record { of = range; fair = same_range }

-- the middle as a value
abbrev pub middles : Value
middles = record {
  of = middle;
  positive = λ w h. omega arith;
  small = λ w h. omega arith;
  not_below = λ w h. omega (arith, h.ordered);
  not_above = λ w h. omega (arith, h.ordered);
  fair = middle_flipped;
}

-- the rule
abbrev pub least_range : Criterion
least_range = record {
  prefers = narrower;
  value = middle;
  total = λ ps qs _ _. either (range (numbers ps)) (range (numbers qs));
  transitive = λ ps qs rs _ _ _ p q. le→leb _ _ (omega (arith, leb→le _ _ p, leb→le _ _ q));
  positive = λ rs _. omega arith;
  small = λ rs _. omega arith;
  not_below = λ rs h. omega (arith, (shaped rs h).ordered);
  not_above = λ rs h. omega (arith, (shaped rs h).ordered);
  fair = λ t _ ps qs h k. ap₂ leb (same_range t _ _ (flips t ps h)) (same_range t _ _ (flips t qs k));
  fair_value = λ t _ rs h. middle_flipped t _ _ (flips t rs h);
}
