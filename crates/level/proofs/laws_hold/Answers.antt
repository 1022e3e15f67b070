use Rattle.level.specs.Lattice.{laws}
use Rattle.level.proofs.laws_hold.Goals as goal

pub returns : goal.returns
returns g c = laws g.L.Level.kind
