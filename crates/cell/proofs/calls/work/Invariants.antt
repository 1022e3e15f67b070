use Rattle.steps.specs.Planes.{size_of}
use Rattle.cell.specs.Shows.{Worked}
use Rattle.cell.proofs.calls.work.Given as goal

abbrev pub invariant-loop : goal.invariant-loop
invariant-loop g l = Worked g.L.Level.kind g.L.Level.meaning g.R.Rule.criterion (size_of l.extent) l.counter l.initial.now l.now l.initial.block l.block
