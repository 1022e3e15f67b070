use Rattle.promise.proofs.Selections.{selection_law}
use Rattle.promise.proofs.best_is_selected.Goals as goal

pub returns : goal.returns
returns g c = selection_law g.L.Level.kind g.R.Rule.criterion
