-- The narrowest window is best, of equally narrow ones the one of fewest ranks; its value is the middle of lowest and highest.
use Rattle.std.specs.Prelude.{[], ◌∷◌}
use Rattle.std.proofs.Common.{arith}
use Rattle.rule.specs.Criterion.{Criterion}
use Rattle.rule.specs.Measures.{least}
use Rattle.rule.specs.Range.{ranges, middles}

-- least range; of equal ranges, least number of ranks, of which there are as many when every rank r has become t - r
abbrev pub narrow_then_few : Criterion
narrow_then_few = least (ranges ∷ record { of = λ w. w.count; fair = λ t w v f. omega arith } ∷ []) middles
