use Rattle.level.specs.Chain.{same_rank}
use Rattle.level.proofs.Heighten.{meet_raised}
use Rattle.level.proofs.heights.I16Level.meet.Goals as goal

pub returns : goal.returns
returns c = same_rank _ _ (meet_raised _ _ _ c.ranges.self c.ranges.other (record { sfits = c.min.type_inv }) c.min.ensures.value)
