use Rattle.std.proofs.Common.{◌≡◌, ◌+◌, ◌-◌, cond, get_or}
use Rattle.steps.specs.Images.{among, bound}
use Rattle.steps.proofs.Written.{Partly}
use Rattle.steps.proofs.fold.bound_row.Given as goal

abbrev pub invariant-loop-x : goal.invariant-loop-x
invariant-loop-x g l =
    let m = g.L.Level.meaning in
    let b = l.initial.block in
    Partly
    (λ d x level. m level ≡ cond (among l.width (x + l.i)) (bound g.L.Level.kind g.W.Way.side (m (get_or b (l.to + x) d)) (m (get_or b (l.from + (x + l.i - 2)) d))) (m (get_or b (l.to + x) d)))
    l.to l.width b l.x l.block
