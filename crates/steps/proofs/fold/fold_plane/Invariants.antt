use Rattle.recipe.specs.Elements.{offsets}
use Rattle.steps.specs.Planes.{size_of}
use Rattle.steps.proofs.Folding.{Rows}
use Rattle.steps.proofs.fold.fold_plane.Given as goal

abbrev pub invariant-loop-row : goal.invariant-loop-row
invariant-loop-row g l =
    Rows g.L.Level.kind g.L.Level.meaning g.W.Way.side (size_of l.extent) (offsets l.element) l.from l.to l.initial.block l.row l.block
