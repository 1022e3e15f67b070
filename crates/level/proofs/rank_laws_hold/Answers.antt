use Rattle.level.specs.Lattice.{rank_laws}
use Rattle.level.proofs.rank_laws_hold.Goals as goal

pub returns : goal.returns
returns g c = rank_laws g.L.Level.kind
