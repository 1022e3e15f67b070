use Rattle.std.proofs.Common.{◌+◌, get_or, ap, ◌∙◌}
use Rattle.steps.proofs.select.level_at.Goals as goal

pub returns : goal.returns
returns g c f held =
    ap g.L.Level.meaning (c.index-block-at.is ∙ ap (λ j. get_or c.args.block.now (c.args.at + j) c.index-block-at.result) c.index.ensures.value)
    ∙ held _ _ (c.args.place.left, c.args.place.above)
