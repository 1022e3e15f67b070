use Rattle.std.proofs.Common.{arith, rules}
use Rattle.steps.proofs.Folding.{rows_more}
use Rattle.steps.proofs.fold.fold_plane.Goals as goal

pub loop-row-preserved : goal.loop-row-preserved
loop-row-preserved g c = rows_more _ _ _ c.loop-row.invariant c.fold_row.ensures (omega arith) (search rules)
