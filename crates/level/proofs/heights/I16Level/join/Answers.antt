use Rattle.level.specs.Chain.{same_rank}
use Rattle.level.proofs.Heighten.{join_raised}
use Rattle.level.proofs.heights.I16Level.join.Goals as goal

pub returns : goal.returns
returns c = same_rank _ _ (join_raised _ _ _ c.ranges.self c.ranges.other (record { sfits = c.max.type_inv }) c.max.ensures.value)
