use Rattle.std.proofs.Common.{refl, arith}
use Rattle.level.specs.Chain.{same_rank}
use Rattle.level.proofs.chains.ChainLevel.negation.Goals as goal

pub returns : goal.returns
returns g c = same_rank _ _ (omega (arith, c.max.ensures, c.rank.ensures refl))
