use Rattle.std.proofs.Common.{◌-◌, sym, refl, subst}
use Rattle.cell.specs.declared.calls.Phase.TheVariants.{Running}
use Rattle.cell.specs.Cells.{OpenLeaves}
use Rattle.cell.proofs.Behinds.{open_at, in_state, stepped}
use Rattle.cell.proofs.calls.Cell.step.Goals as goal

pub returns : goal.returns
returns g c =
    let K = g.S.Pixel.Level.kind in
    let m = g.S.Pixel.Level.meaning in
    let C = g.S.Selector.Rule.criterion in
    let cell = c.args.self.now in
    let e = c.in-Some.open.extent in
    let r = c.in-Running.run' in
    let now = open_at cell.open c.in-Some.open (Running r) c.in-Some.is c.in-Running.is in
    record {
      happens = λ s h b.
          stepped K m C s e cell.block.now h r c.work-after.result c.work-after.new.block c.args.count c.min-done.result (r.plan.count - r.done)
          c.min-done.ensures refl c.work-after.ensures
          (in_state K m C s e cell.block.now h cell.open _ now b);
      same = refl;
      block = subst (λ o. OpenLeaves o cell.block.now c.work-after.new.block) (sym now) c.work-after.ensures.leaves;
      refused = tt;
    }
