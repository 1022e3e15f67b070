use Rattle.std.proofs.Common.{arith}
use Rattle.rule.specs.Ranks.{single}
use Rattle.rule.specs.Windows.{made_single}
use Rattle.rule.proofs.Kept.{kept}
use Rattle.rule.proofs.window.Window.of_rank.Goals as goal

pub invariant_of-result : goal.invariant_of-result
invariant_of-result c = kept (single _) (made_single _ (omega arith))
