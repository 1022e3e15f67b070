use Rattle.std.proofs.Common.{ℕ, List, Ok, OnOk, sym, ap, ◌∙◌, subst}
use Rattle.commands.specs.Commands.{asked_by}
use Rattle.transcripts.specs.Serving.{LineServed}
use Rattle.transcripts.proofs.serve.tell_celled.Goals as goal

pub returns-in-Put-clause-served : goal.returns-in-Put-clause-served
returns-in-Put-clause-served g c =
    subst
    (λ command. OnOk c.tell_put.result ((text : List ℕ) × g.T.Teller.tells c.args.teller.now c.tell_put.new.teller text × LineServed g.S.Pixel.Level.kind g.S.Pixel.Level.meaning g.S.Selector.Rule.criterion g.S.Pixel.Written.spells g.S.Pixel.Written.text c.args.width g.T.Teller.misses c.args.desk.now c.tell_put.new.desk c.args.line (asked_by command) text))
    (sym (c.in-Ok.is ∙ ap Ok c.in-Put.is))
    c.tell_put.ensures.served
