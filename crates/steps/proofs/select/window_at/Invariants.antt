use Rattle.recipe.specs.Elements.{offsets}
use Rattle.rule.specs.Views.{Gathered}
use Rattle.steps.specs.Images.{Image}
use Rattle.steps.specs.Places.{place_of}
use Rattle.steps.specs.Planes.{size_of, Holds}
use Rattle.steps.proofs.Selecting.{ranks_upto}
use Rattle.steps.proofs.select.window_at.Given as goal

abbrev pub invariant-loop-b : goal.invariant-loop-b
invariant-loop-b g l =
    let K = g.L.Level.kind in
    let s = size_of l.place.extent in
    (f : Image K) → Holds K g.L.Level.meaning s l.block l.at f → Gathered l.window (ranks_upto K s (offsets l.element) f (place_of l.place) l.b)
