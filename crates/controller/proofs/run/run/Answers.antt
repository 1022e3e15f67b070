use Rattle.std.proofs.Common.{[], map, length, sym, ◌∙◌, arith, rules}
use Rattle.std.proofs.lemmas.List.{length-map}
use Rattle.std.proofs.lemmas.Result.{err_from_is_err_and}
use Rattle.cell.specs.Histories.{setting}
use Rattle.controller.proofs.Calling.{not_admitted, not_alike, not_laid, taken, never_refused, has_sheet, frame_long}
use Rattle.controller.proofs.Sparing.{stepped_past, laid_past, run_past}
use Rattle.controller.proofs.run.run.Goals as goal

pub returns-in_err-admit-clause-answer : goal.returns-in_err-admit-clause-answer
returns-in_err-admit-clause-answer g c =
    let p = err_from_is_err_and c.from_residual.result c.from_residual.ensures.1 in
    let s = setting c.args.width c.args.height (length c.args.block.now) in
    let b = c.in_err-admit.ensures.happens s [] c.new-cell.ensures.behind in
    rw (p.1, p.2) (not_admitted g.S.Pixel.Level.kind g.S.Selector.Rule.criterion s c.args.recipe.now (map g.S.Pixel.Level.meaning c.args.frame.now) (length c.args.out.now) _ b.can.1)

pub returns-then-out-frame-clause-answer : goal.returns-then-out-frame-clause-answer
returns-then-out-frame-clause-answer g c =
    let m = g.S.Pixel.Level.meaning in
    let s = setting c.args.width c.args.height (length c.args.block.now) in
    let b = c.in_ok-admit.ensures.happens s [] c.new-cell.ensures.behind in
    not_alike g.S.Pixel.Level.kind g.S.Selector.Rule.criterion s c.args.recipe.now (map m c.args.frame.now) (length c.args.out.now) _ b.can.1
    (λ e. omega (arith, length-map c.args.frame.now m))

pub returns-in_err-slip-clause-answer : goal.returns-in_err-slip-clause-answer
returns-in_err-slip-clause-answer g c =
    let p = err_from_is_err_and c.from_residual-in_err-slip.result c.from_residual-in_err-slip.ensures.1 in
    let s = setting c.args.width c.args.height (length c.args.block.now) in
    let b1 = c.in_ok-admit.ensures.happens s [] c.new-cell.ensures.behind in
    let b2 = c.in_err-slip.ensures.happens s _ b1 in
    rw (p.1, p.2) (not_laid g.S.Pixel.Level.kind g.S.Selector.Rule.criterion s c.args.recipe.now (map g.S.Pixel.Level.meaning c.args.frame.now) (length c.args.out.now) _ b1.can.1 _ b2.can.1)

pub unreachable-requires : goal.unreachable-requires
unreachable-requires g c =
    let K = g.S.Pixel.Level.kind in
    let C = g.S.Selector.Rule.criterion in
    let m = g.S.Pixel.Level.meaning in
    let s = setting c.args.width c.args.height (length c.args.block.now) in
    let f = map m c.args.frame.now in
    let b1 = c.in_ok-admit.ensures.happens s [] c.new-cell.ensures.behind in
    let b2 = c.in_ok-slip.ensures.happens s _ b1 in
    let b3 = c.step.ensures.happens s _ b2 in
    let b4 = c.in-Err.ensures.happens s _ b3 in
    never_refused K C s c.args.recipe.now f (length c.args.out.now) _ b1.can.1 b2.can.1 _ (omega arith) _ _ b3.can.1 b4.can.1
    (omega (arith, length-map c.args.frame.now m))

pub returns-clause-answer : goal.returns-clause-answer
returns-clause-answer g c =
    let s = setting c.args.width c.args.height (length c.args.block.now) in
    let b1 = c.in_ok-admit.ensures.happens s [] c.new-cell.ensures.behind in
    let b2 = c.in_ok-slip.ensures.happens s _ b1 in
    let b3 = c.step.ensures.happens s _ b2 in
    let b4 = c.in-Ok.ensures.happens s _ b3 in
    taken g.S.Pixel.Level.kind g.S.Selector.Rule.criterion s c.args.recipe.now (map g.S.Pixel.Level.meaning c.args.frame.now) (length c.args.out.now)
    _ b1.can.1 b2.can.1 _ (omega arith) _ _ b3.can.1 b4.can.1

pub returns-clause-block : goal.returns-clause-block
returns-clause-block g c =
    let K = g.S.Pixel.Level.kind in
    let C = g.S.Selector.Rule.criterion in
    let m = g.S.Pixel.Level.meaning in
    let s = setting c.args.width c.args.height (length c.args.block.now) in
    let f = map m c.args.frame.now in
    let b1 = c.in_ok-admit.ensures.happens s [] c.new-cell.ensures.behind in
    let b2 = c.in_ok-slip.ensures.happens s _ b1 in
    let sheet = has_sheet K C s c.args.recipe.now f (length c.args.out.now) _ b1.can.1 in
    let long = frame_long K C s c.args.recipe.now f (length c.args.out.now) _ b1.can.1 b2.can.1 in
    run_past _ c.args.block.now _ _ _ _ (c.in_ok-admit.ensures.block ∙ c.new-cell.ensures.block)
    (laid_past s sheet.0 _ c.args.frame.now _ _ sheet.1 (sym (length-map c.args.frame.now m) ∙ long) c.in_ok-slip.ensures.block)
    (stepped_past K m C s _ _ _ _ b2 c.step.ensures.block)
    (search rules)
