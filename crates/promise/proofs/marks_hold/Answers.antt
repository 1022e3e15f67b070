use Rattle.promise.proofs.Runs.{marks_law}
use Rattle.promise.proofs.marks_hold.Goals as goal

pub returns : goal.returns
returns g c = marks_law g.L.Level.kind g.R.Rule.criterion
