use Rattle.std.proofs.Common.{arith}
use Rattle.steps.specs.Planes.{size_of}
use Rattle.steps.proofs.Written.{part_made}
use Rattle.steps.proofs.planes.negate.Goals as goal

pub returns : goal.returns
returns g c =
    part_made _ _ _ _ (omega arith) g.L.Level.kind g.L.Level.meaning (size_of c.args.extent) g.L.Level.kind.negation (omega arith) (omega arith)
    (λ k d lt. c.loop-level.invariant.done k d (omega arith))
