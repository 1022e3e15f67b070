use Rattle.std.proofs.Common.{◌≡◌, ◌+◌, get_or}
use Rattle.steps.proofs.Written.{Partly}
use Rattle.steps.proofs.planes.copy.Given as goal

abbrev pub invariant-loop-i : goal.invariant-loop-i
invariant-loop-i g l = Partly (λ d k x. x ≡ get_or l.initial.block (l.from + k) d) l.to l.n l.initial.block l.i l.block
