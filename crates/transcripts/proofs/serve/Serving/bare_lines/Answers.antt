use Rattle.std.proofs.Common.{◌+◌, [], ◌++◌, vec_items, refl, arith, inl, subst}
use Rattle.commands.specs.Commands.{asked_by}
use Rattle.transcripts.specs.Transcripts.{Bare, LineRead, Served}
use Rattle.transcripts.proofs.Lining.{rest_lines, line_there, lines_done, so_far_none, so_far_more, so_far_cell, so_far_all}
use Rattle.transcripts.proofs.serve.Serving.bare_lines.Goals as goal

pub loop-i-init : goal.loop-i-init
loop-i-init g c = (
  (refl, refl, rest_lines c.args.from c.args.self.now.lines.now c.in-Some.rest.now c.in-Some.ensures.lookup.0.2),
  (
    [],
    g.met.T.Teller.starts c.args.self.now.teller.now,
    so_far_none g.T.Words.Parting.cut (Served g.T.Teller.misses Bare) vec_items c.args.self.now.lines.now tt c.args.from [] refl,
  ),
)

pub returns-in-Some-making-clause-served : goal.returns-in-Some-making-clause-served
returns-in-Some-making-clause-served g c =
    let lines = c.args.self.now.lines.now in
    let k = c.args.from + c.loop-i.i in
    let so = c.loop-i.invariant.1 in
    let here = line_there c.args.from c.loop-i.i lines c.in-Some.rest.now c.index-rest-i.result c.loop-i.invariant.0.2 c.loop-i-test.true c.index-rest-i.is in
    let read = subst (λ t. LineRead g.T.Words.Parting.cut t (asked_by c.read-command.result)) c.deref.ensures.value c.read-command.ensures in
    let stop = subst (λ r. LineRead g.T.Words.Parting.cut (vec_items c.index-rest-i.result) (asked_by r)) c.in-Some-making.ensures read in
    (so.0, so.1, so_far_cell g.T.Words.Parting.cut (Served g.T.Teller.misses Bare) vec_items lines tt c.args.from tt k so.0 c.index-rest-i.result c.in-Some-making.making here.0 here.1 stop so.2)

pub loop-i-preserved : goal.loop-i-preserved
loop-i-preserved g c =
    let lines = c.args.self.now.lines.now in
    let k = c.args.from + c.loop-i.i in
    let so = c.loop-i.invariant.1 in
    let here = line_there c.args.from c.loop-i.i lines c.in-Some.rest.now c.index-rest-i.result c.loop-i.invariant.0.2 c.loop-i-test.true c.index-rest-i.is in
    let r = asked_by c.read-command.result in
    let read = subst (λ t. LineRead g.T.Words.Parting.cut t r) c.deref.ensures.value c.read-command.ensures in
    let told = c.in_ok-tell_bare-in-None.ensures in (
      c.loop-i.invariant.0,
      (
        so.0 ++ told.0,
        g.met.T.Teller.joins c.args.self.now.teller.now c.loop-i.self.teller.now c.tell_bare.new.teller so.0 told.0 so.1 told.1,
        so_far_more g.T.Words.Parting.cut (Served g.T.Teller.misses Bare) vec_items lines tt c.args.from tt tt k so.0 told.0 c.index-rest-i.result r here.0 here.1 read c.in-None.ensures (inl told.2) so.2 (c.args.from + (c.loop-i.i + 1)) (omega arith),
      ),
    )

pub returns-clause-served : goal.returns-clause-served
returns-clause-served g c =
    let lines = c.args.self.now.lines.now in
    let so = c.loop-i.invariant.1 in
    (so.0, so.1, so_far_all g.T.Words.Parting.cut (Served g.T.Teller.misses Bare) vec_items lines tt c.args.from tt (c.args.from + c.loop-i.i) so.0 (lines_done c.args.from c.loop-i.i lines c.in-Some.rest.now c.loop-i.invariant.0.2 (omega (arith, c.loop-i-test.false))) so.2)
