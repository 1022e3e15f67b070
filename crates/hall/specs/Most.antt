-- Most ranks: the window of more ranks is better, and its value is the middle of its lowest and highest rank.
use Rattle.std.proofs.Common.{ap₂, arith, leb→le, le→leb}
use Rattle.std.specs.Prelude.{Bool, nat_le}
use Rattle.rule.specs.Ranks.{Numbers, numbers}
use Rattle.rule.specs.Criterion.{Criterion}
use Rattle.rule.specs.Range.{middle, middle_flipped}
use Rattle.rule.specs.Windows.{either, shaped}
use Rattle.rule.specs.Flipped.{flips}

-- the first window has at least as many ranks as the second
abbrev pub fuller : Numbers → Numbers → Bool
fuller v w = nat_le w.count v.count

-- the rule
abbrev pub most_ranks : Criterion
most_ranks = record {
  prefers = fuller;
  value = middle;
  total = λ ps qs _ _. either (numbers qs).count (numbers ps).count;
  transitive = λ ps qs rs _ _ _ p q. le→leb _ _ (omega (arith, leb→le _ _ p, leb→le _ _ q));
  positive = λ rs _. omega arith;
  small = λ rs _. omega arith;
  not_below = λ rs h. omega (arith, (shaped rs h).ordered);
  not_above = λ rs h. omega (arith, (shaped rs h).ordered);
  fair = λ t _ ps qs h k. ap₂ nat_le (flips t qs k).count (flips t ps h).count;
  fair_value = λ t _ rs h. middle_flipped t _ _ (flips t rs h);
}
