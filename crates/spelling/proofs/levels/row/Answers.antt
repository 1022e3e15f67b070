use Rattle.std.proofs.Common.{◌++◌, ap, ◌∙◌, ap₂, sym}
use Rattle.spelling.proofs.Spelled.{row_more}
use Rattle.spelling.proofs.levels.row.Goals as goal

pub loop-i-preserved : goal.loop-i-preserved
loop-i-preserved g c =
    let t = g.L.Written.text in
    let before = c.in_ok-push_str.ensures.bytes ∙ ap₂ (λ x y. x ++ y) c.loop-i.invariant c.parting.ensures in
    let level = c.as_str.ensures.value ∙ c.in_ok-level.ensures ∙ ap t c.index-levels-i.is in
    c.in_ok-push_str-2.ensures.bytes ∙ (ap₂ (λ x y. x ++ y) before level ∙ sym (row_more t c.args.levels.now c.loop-i.i c.index-levels-i.result c.loop-i-test.true))
