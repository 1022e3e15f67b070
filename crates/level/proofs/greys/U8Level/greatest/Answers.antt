use Rattle.std.proofs.Common.{arith}
use Rattle.level.specs.Chain.{same_rank}
use Rattle.level.proofs.greys.U8Level.greatest.Goals as goal

pub returns : goal.returns
returns c = same_rank _ _ (omega arith)
