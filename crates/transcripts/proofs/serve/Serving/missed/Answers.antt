use Rattle.transcripts.proofs.Making.{made_map}
use Rattle.transcripts.proofs.Telling.{after_head}
use Rattle.transcripts.proofs.serve.Serving.missed.Goals as goal

pub returns-clause-served : goal.returns-clause-served
returns-clause-served g c =
    let head = c.in_ok-miss.ensures in
    made_map c.bare_lines.result (λ next p. (p.0, p.1, record { head = head.0; misses = head.1; others = p.2 }))
    (after_head g.T.Teller.tells g.met.T.Teller.joins c.args.self.now.teller.now c.miss.new.self c.bare_lines.new.self.teller.now head.0 _ c.bare_lines.result head.2 c.bare_lines.ensures.served)
