use Rattle.std.proofs.Common.{Err}
use Rattle.commands.specs.Commands.{put_by}
use Rattle.transcripts.specs.Texts.{reply_text}
use Rattle.transcripts.proofs.Telling.{replied_line, tidy_after, told_map, troubled_line}
use Rattle.transcripts.proofs.serve.tell_put.Goals as goal

pub returns-in-Ok-clause-served : goal.returns-in-Ok-clause-served
returns-in-Ok-clause-served g c =
    told_map c.tell.result
    (λ told. (
      reply_text g.S.Pixel.Written.text c.args.width c.in-Ok.reply,
      told,
      replied_line g.S.Pixel.Level.kind g.S.Pixel.Level.meaning g.S.Selector.Rule.criterion g.S.Pixel.Written.spells g.S.Pixel.Written.text c.args.width g.T.Teller.misses c.args.desk.now c.put.new.desk c.args.line (put_by c.args.call) c.in-Ok.reply c.in-Ok.ensures,
    ))
    c.tell.ensures

pub returns-in-Err-clause-tidy : goal.returns-in-Err-clause-tidy
returns-in-Err-clause-tidy g c =
    tidy_after g.S.Pixel.Level.kind g.S.Pixel.Level.meaning g.S.Selector.Rule.criterion g.S.Pixel.Written.spells c.args.desk.now c.put.new.desk (put_by c.args.call) c.requires (Err c.in-Err.trouble) c.in-Err.ensures

pub returns-in-Err-clause-served : goal.returns-in-Err-clause-served
returns-in-Err-clause-served g c =
    told_map c.tell_trouble.result
    (λ told. (
      told.0,
      told.1,
      troubled_line g.S.Pixel.Level.kind g.S.Pixel.Level.meaning g.S.Selector.Rule.criterion g.S.Pixel.Written.spells g.S.Pixel.Written.text c.args.width g.T.Teller.misses c.args.desk.now c.put.new.desk c.args.line (put_by c.args.call) c.in-Err.trouble told.0 c.in-Err.ensures told.2,
    ))
    c.tell_trouble.ensures
