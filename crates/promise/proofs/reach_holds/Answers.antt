use Rattle.promise.proofs.Runs.{reach_law}
use Rattle.promise.proofs.reach_holds.Goals as goal

pub returns : goal.returns
returns g c = reach_law g.L.Level.kind g.R.Rule.criterion
