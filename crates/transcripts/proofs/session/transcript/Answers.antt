use Rattle.std.proofs.Common.{◌++◌, map, vec_items, ap, ◌∙◌, sym, subst}
use Rattle.transcripts.specs.Scripts.{Prints}
use Rattle.transcripts.proofs.Scripting.{all_told}
use Rattle.transcripts.proofs.session.transcript.Goals as goal

pub returns : goal.returns
returns c =
    let told = c.in_ok-serve.ensures in
    let same = told.1 ∙ ap (λ t. t ++ told.0) c.new-text.ensures.bytes in
    subst (Prints (map vec_items c.args.lines.now)) (sym same) (all_told (map vec_items c.args.lines.now) told.0 told.2)
