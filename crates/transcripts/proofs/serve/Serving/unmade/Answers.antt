use Rattle.transcripts.specs.declared.reply.Trouble.TheVariants.{TooLong}
use Rattle.transcripts.specs.Texts.{unserved_text}
use Rattle.transcripts.proofs.Telling.{after_head}
use Rattle.transcripts.proofs.serve.Serving.unmade.Goals as goal

pub returns-clause-served : goal.returns-clause-served
returns-clause-served g c =
    after_head g.T.Teller.tells g.met.T.Teller.joins c.args.self.now.teller.now c.tell.new.self c.bare_lines.new.self.teller.now (unserved_text c.args.start.line TooLong) _ c.bare_lines.result
    c.in_ok-tell.ensures
    c.bare_lines.ensures.served
