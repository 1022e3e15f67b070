use Rattle.std.proofs.Common.{◌+◌, get_or}
use Rattle.steps.specs.Planes.{places, size_of}
use Rattle.steps.proofs.Written.{Partly}
use Rattle.steps.proofs.planes.merge_planes.Given as goal

abbrev pub invariant-loop-i : goal.invariant-loop-i
invariant-loop-i g l =
    let b = l.initial.block in
    Partly (λ d k x. goal.F-post g l.both (get_or b (l.lower + k) d) (get_or b (l.upper + k) d) x) l.lower (places (size_of l.fn.extent)) b l.i l.block
