use Rattle.std.proofs.Common.{arith, rules}
use Rattle.std.proofs.lemmas.List.{get_or_read}
use Rattle.cell.proofs.Moving.{written_none, written_more}
use Rattle.cell.proofs.calls.put.Goals as goal

pub loop-i-init : goal.loop-i-init
loop-i-init g c = written_none

pub loop-i-preserved : goal.loop-i-preserved
loop-i-preserved g c = written_more _ _ _ c.loop-i.invariant (omega arith) (λ d. let lt = c.loop-i-test.true in search (rules, get_or_read))

pub returns : goal.returns
returns g c =
    let w = c.loop-i.invariant in
    record { long = w.long; front = λ k d h. w.done k d (omega arith); rest = λ k d h. w.rest k d (omega arith) }
