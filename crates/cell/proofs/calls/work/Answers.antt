use Rattle.std.proofs.Common.{◌≡◌, ℕ, length, sym, ap, subst, arith}
use Rattle.recipe.specs.declared.plan.Plan.{Plan}
use Rattle.steps.specs.Planes.{size_of}
use Rattle.cell.specs.Shows.{Housed, Worked}
use Rattle.cell.proofs.Working.{worked_none, worked_more}
use Rattle.cell.proofs.calls.work.Goals as goal

pub loop-init : goal.loop-init
loop-init g c = worked_none g.L.Level.kind g.L.Level.meaning g.R.Rule.criterion (size_of c.args.extent) c.args.run c.args.block.now

pub next-now-requires : goal.next-now-requires
next-now-requires g c =
    let w = c.loop.invariant in
    let plan = w.plan in
    let done = w.done in
    record {
      left = omega (arith, c.requires.left, ap (λ (p : Plan). p.count) plan);
      housed = subst (λ (p : Plan). Housed g.L.Level.kind (size_of c.args.extent) p (length c.loop.block)) (sym plan)
          (subst (λ (n : ℕ). Housed g.L.Level.kind (size_of c.args.extent) c.args.run.plan n) (sym w.leaves.long) c.requires.housed);
    }

pub loop-preserved : goal.loop-preserved
loop-preserved g c =
    worked_more g.L.Level.kind g.L.Level.meaning g.R.Rule.criterion (size_of c.args.extent) c.loop.counter _ _ _ _ _ _ c.loop.invariant c.next-now.ensures

pub returns : goal.returns
returns g c =
    let all : c.loop.counter ≡ c.args.count = omega arith in
    subst (λ (n : ℕ). Worked g.L.Level.kind g.L.Level.meaning g.R.Rule.criterion (size_of c.args.extent) n c.args.run c.loop.now c.args.block.now c.loop.block) all c.loop.invariant
