use Rattle.std.proofs.Common.{arith}
use Rattle.std.proofs.lemmas.Int.{ints}
use Rattle.level.specs.Chain.{same_rank}
use Rattle.level.proofs.Heighten.{negation_raised}
use Rattle.level.proofs.heights.I16Level.negation.Goals as goal

pub returns : goal.returns
returns c = same_rank _ _ (negation_raised c.args.self _ c.ranges.self (omega (arith, ints)))
