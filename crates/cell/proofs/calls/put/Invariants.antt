use Rattle.std.proofs.Common.{get_or}
use Rattle.cell.proofs.Moving.{Written}
use Rattle.cell.proofs.calls.put.Given as goal

abbrev pub invariant-loop-i : goal.invariant-loop-i
invariant-loop-i g l = Written (λ k d. get_or l.frame k d) l.initial.block l.i l.block
