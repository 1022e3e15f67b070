use Rattle.std.proofs.Common.{length, sym, subst}
use Rattle.recipe.specs.declared.step.Step.{Step}
use Rattle.recipe.specs.Steps.{form}
use Rattle.steps.specs.Planes.{size_of}
use Rattle.steps.specs.Stacks.{Ready, Applied}
use Rattle.cell.proofs.Working.{ready, worked_one}
use Rattle.cell.proofs.calls.next.Goals as goal

pub apply_step-requires : goal.apply_step-requires
apply_step-requires g c =
    let r = c.args.run in
    subst (λ (x : Step). Ready g.L.Level.kind (size_of c.args.extent) (form x) r.plan.sheet.planes r.depth (length c.args.block.now)) (sym c.step.ensures)
    (ready g.L.Level.kind (size_of c.args.extent) r (length c.args.block.now) c.requires.left c.requires.housed)

pub returns : goal.returns
returns g c =
    let r = c.args.run in
    worked_one g.L.Level.kind g.L.Level.meaning g.R.Rule.criterion (size_of c.args.extent) r c.advanced.result c.args.block.now c.apply_step.new.block
    c.requires.left c.advanced.ensures.plan c.advanced.ensures.done c.advanced.ensures.depth c.apply_step.auto.block
    (subst (λ (x : Step). Applied g.L.Level.kind g.L.Level.meaning g.R.Rule.criterion (size_of c.args.extent) (form x) r.plan.sheet.planes r.depth c.args.block.now c.apply_step.new.block) c.step.ensures c.apply_step.ensures)
