use Rattle.std.proofs.Common.{◌≡◌}
use Rattle.recipe.specs.Elements.{offsets}
use Rattle.rule.specs.Views.{standing}
use Rattle.rule.specs.Choice.{best}
use Rattle.steps.specs.Images.{Image}
use Rattle.steps.specs.Places.{place_of}
use Rattle.steps.specs.Planes.{size_of, Holds}
use Rattle.steps.proofs.Selecting.{candidates_upto}
use Rattle.steps.proofs.select.selected_at.Given as goal

abbrev pub invariant-loop-b : goal.invariant-loop-b
invariant-loop-b g l =
    let K = g.L.Level.kind in
    let s = size_of l.place.extent in
    (f : Image K) → Holds K g.L.Level.meaning s l.block l.at f →
    standing l.best ≡ best g.R.Rule.criterion l.side l.rank (candidates_upto K s (offsets l.element) f (place_of l.place) l.b)
