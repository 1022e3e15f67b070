use Rattle.std.proofs.Common.{arith}
use Rattle.steps.proofs.Written.{partly_none, partly_more, read_kept}
use Rattle.steps.proofs.planes.copy.Goals as goal

pub loop-i-init : goal.loop-i-init
loop-i-init g c = partly_none

pub loop-i-preserved : goal.loop-i-preserved
loop-i-preserved g c =
    partly_more _ _ _ c.loop-i.invariant (omega arith) (omega arith) (λ d. read_kept _ _ _ _ d c.loop-i.invariant (omega arith) (omega arith) c.index-block-from.is)

pub returns : goal.returns
returns g c = record { same = λ k d h. c.loop-i.invariant.done k d (omega arith); kept = c.loop-i.invariant.kept }
