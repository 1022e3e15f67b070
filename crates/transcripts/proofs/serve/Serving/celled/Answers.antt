use Rattle.std.proofs.Common.{[], length, codes, refl}
use Rattle.cell.specs.Histories.{setting}
use Rattle.transcripts.proofs.Making.{made_map}
use Rattle.transcripts.proofs.Telling.{after_head}
use Rattle.transcripts.proofs.serve.Serving.celled.Goals as goal

pub returns-in-Some-clause-served : goal.returns-in-Some-clause-served
returns-in-Some-clause-served g c =
    let s = setting c.args.start.making.width c.args.start.making.height (length c.args.block.now) in
    after_head g.T.Teller.tells g.met.T.Teller.joins c.args.self.now.teller.now c.tell.new.self c.celled_lines-served.new.self.teller.now (codes "made\n") _ c.celled_lines-served.result
    c.in_ok-tell.ensures
    (made_map c.celled_lines-served.result (λ next p. (p.0, p.1, p.2 s [] refl c.new-desk.ensures)) c.celled_lines-served.ensures.served)

pub returns-in_default-clause-served : goal.returns-in_default-clause-served
returns-in_default-clause-served g c =
    let s = setting c.args.start.making.width c.args.start.making.height (length c.args.block.now) in
    after_head g.T.Teller.tells g.met.T.Teller.joins c.args.self.now.teller.now c.tell.new.self c.celled_lines-served.new.self.teller.now (codes "made\n") _ c.celled_lines-served.result
    c.in_ok-tell.ensures
    (made_map c.celled_lines-served.result (λ next p. (p.0, p.1, p.2 s [] refl c.new-desk.ensures)) c.celled_lines-served.ensures.served)
