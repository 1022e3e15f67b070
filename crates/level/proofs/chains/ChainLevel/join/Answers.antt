use Rattle.std.proofs.Common.{arith}
use Rattle.level.specs.Chain.{same_rank}
use Rattle.level.proofs.chains.ChainLevel.join.Goals as goal

pub returns : goal.returns
returns g c = same_rank _ _ (omega (arith, c.max.ensures))
