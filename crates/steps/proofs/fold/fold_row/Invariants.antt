use Rattle.recipe.specs.Elements.{offsets}
use Rattle.steps.proofs.Folding.{Upto}
use Rattle.steps.proofs.fold.fold_row.Given as goal

abbrev pub invariant-loop-b : goal.invariant-loop-b
invariant-loop-b g l =
    Upto g.L.Level.kind g.L.Level.meaning g.W.Way.side (record { width = l.width; height = l.height }) (offsets l.element) l.row l.from l.to l.initial.block l.b l.block
