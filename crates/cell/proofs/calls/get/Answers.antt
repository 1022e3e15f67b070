use Rattle.std.proofs.Common.{◌+◌, arith}
use Rattle.std.proofs.lemmas.List.{get_or_read}
use Rattle.cell.proofs.Moving.{written_none, written_more}
use Rattle.cell.proofs.calls.get.Goals as goal

pub loop-i-init : goal.loop-i-init
loop-i-init g c = written_none

pub loop-i-preserved : goal.loop-i-preserved
loop-i-preserved g c = written_more _ _ _ c.loop-i.invariant (omega arith) (λ d. get_or_read c.args.block.now (c.args.at + c.loop-i.i) _ (omega arith) c.index-block-at.is d)

pub returns : goal.returns
returns g c = λ k d h. c.loop-i.invariant.done k d (omega arith)
