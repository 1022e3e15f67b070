use Rattle.std.proofs.lemmas.Bool.Decides.{Decides-and, Decides-like}
use Rattle.std.proofs.Common.{sym}
use Rattle.level.specs.Lattice.{laws}
use Rattle.level.proofs.same_level.Goals as goal

pub returns : goal.returns
returns g c =
    let K = g.L.Level.kind in
    Decides-like _
    (λ h. K.antisymmetric _ _ h.0 h.1)
    (λ e. ((laws K).same_below _ _ e, (laws K).same_below _ _ (sym e)))
    (Decides-and _ _ c.at_most.ensures c.at_most-2.ensures)
