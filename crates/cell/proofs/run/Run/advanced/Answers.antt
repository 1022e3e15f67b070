use Rattle.std.proofs.Common.{◌≡◌, ◌+◌, true, take, drop, sym, subst, arith}
use Rattle.recipe.specs.Depths.{runs}
use Rattle.cell.proofs.Running.{next_room, next_sound}
use Rattle.cell.proofs.run.Run.advanced.Goals as goal

pub invariant_of-result : goal.invariant_of-result
invariant_of-result c =
    let r = c.args.self in
    let room = next_room r c.requires in
    record {
      within = omega (arith, c.requires);
      low = omega (arith, c.deepened.ensures);
      sound = subst (λ d. runs r.plan.ranked r.plan.sheet.planes d (drop (r.done + 1) (take r.plan.count r.plan.steps)) ≡ true) (sym c.deepened.ensures) (next_sound r c.requires);
    }
