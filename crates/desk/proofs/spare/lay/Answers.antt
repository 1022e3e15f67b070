use Rattle.std.proofs.Common.{false, [], length, refl}
use Rattle.level.specs.Delivered.{mask}
use Rattle.rule.specs.Variance.{least_variance}
use Rattle.cell.specs.Histories.{setting}
use Rattle.desk.proofs.Keeping.{lays}
use Rattle.desk.proofs.spare.lay.Goals as goal

pub unreachable-requires : goal.unreachable-requires
unreachable-requires c =
    let n = length c.args.block.now in
    let s = setting 1 1 n in
    let b1 = c.admit.ensures.happens s [] c.new-cell.ensures.behind in
    let b2 = c.in-Err.ensures.happens s _ b1 in
    lays least_variance (mask false) n c.told-block _ _ b1.can.1 b2.can.1

pub returns : goal.returns
returns c =
    let s = setting 1 1 (length c.args.block.now) in
    let b1 = c.admit.ensures.happens s [] c.new-cell.ensures.behind in
    let b2 = c.in-Ok.ensures.happens s _ b1 in
    record { made = s; past = _; behind = b2; run = refl }
