use Rattle.std.proofs.Common.{ℕ, ◌<◌, List, ◌++◌, map, drop, length, vec_items, refl, sym, ◌∙◌, subst}
use Rattle.transcripts.specs.Scripts.{ServedAs, criterion_of}
use Rattle.transcripts.proofs.Scripting.{Printing, left_from, printing_ends, printing_fewer, printing_more, printing_starts}
use Rattle.transcripts.proofs.serve.Serving.run.Goals as goal

pub loop-next-init : goal.loop-next-init
loop-next-init g c =
    let first = c.in_ok-next.ensures.served in
    (refl, c.bare_lines.ensures.lines, (first.0, first.1, printing_starts g.T.Words.Parting.cut g.T.Teller.misses vec_items c.args.self.now.lines.now first.0 _ first.2))

pub loop-next-smaller : goal.loop-next-smaller
loop-next-smaller g c =
    let so = c.loop-next.invariant.2 in
    let told = subst (λ ls. (text : List ℕ) × g.T.Teller.tells c.loop-next.self.teller.now c.from_start.new.self.teller.now text × ServedAs g.T.Words.Parting.cut g.T.Teller.misses c.in-Some.start.making.kind (criterion_of c.in-Some.start.making.rule) c.in-Some.start (map vec_items (drop c.in-Some.start.line ls)) text c.in_ok-served.served) c.loop-next.invariant.1 c.in_ok-served.ensures.served in
    let here = subst (Printing g.T.Words.Parting.cut g.T.Teller.misses vec_items c.args.self.now.lines.now so.0) c.in-Some.is so.2 in
    subst (λ n. left_from (length c.args.self.now.lines.now) c.in_ok-served.served < left_from (length c.args.self.now.lines.now) n) (sym c.in-Some.is)
    (printing_fewer g.T.Words.Parting.cut g.T.Teller.misses vec_items c.args.self.now.lines.now so.0 told.0 c.in-Some.start c.in_ok-served.served here told.2)

pub loop-next-preserved : goal.loop-next-preserved
loop-next-preserved g c =
    let so = c.loop-next.invariant.2 in
    let told = subst (λ ls. (text : List ℕ) × g.T.Teller.tells c.loop-next.self.teller.now c.from_start.new.self.teller.now text × ServedAs g.T.Words.Parting.cut g.T.Teller.misses c.in-Some.start.making.kind (criterion_of c.in-Some.start.making.rule) c.in-Some.start (map vec_items (drop c.in-Some.start.line ls)) text c.in_ok-served.served) c.loop-next.invariant.1 c.in_ok-served.ensures.served in
    let here = subst (Printing g.T.Words.Parting.cut g.T.Teller.misses vec_items c.args.self.now.lines.now so.0) c.in-Some.is so.2 in (
      c.from_start.ensures.same ∙ c.loop-next.invariant.0,
      c.from_start.ensures.lines ∙ c.loop-next.invariant.1,
      (
        so.0 ++ told.0,
        g.met.T.Teller.joins c.args.self.now.teller.now c.loop-next.self.teller.now c.from_start.new.self.teller.now so.0 told.0 so.1 told.1,
        printing_more g.T.Words.Parting.cut g.T.Teller.misses vec_items c.args.self.now.lines.now so.0 told.0 c.in-Some.start c.in_ok-served.served here told.2,
      ),
    )

pub returns-clause-served : goal.returns-clause-served
returns-clause-served g c =
    let so = c.loop-next.invariant.2 in
    (so.0, so.1, printing_ends g.T.Words.Parting.cut g.T.Teller.misses vec_items c.args.self.now.lines.now so.0 (subst (Printing g.T.Words.Parting.cut g.T.Teller.misses vec_items c.args.self.now.lines.now so.0) c.in_default.is so.2))
