use Rattle.std.proofs.Common.{[], map, length}
use Rattle.std.proofs.lemmas.Result.{err_from_is_err_and}
use Rattle.cell.specs.Histories.{setting}
use Rattle.cell.specs.Cells.{step_answer}
use Rattle.cell.specs.Refusals.{cell_refusal}
use Rattle.hall.proofs.Ran.{not_admitted, not_laid, ran, ends, pictured}
use Rattle.hall.proofs.runs.run_once.Goals as goal

pub returns-in_err-admit-clause-answer : goal.returns-in_err-admit-clause-answer
returns-in_err-admit-clause-answer g c =
    let s = setting c.args.width c.args.height (length c.args.block.now) in
    let f = map g.S.Pixel.Level.meaning c.args.frame.now in
    let b = c.in_err-admit.ensures.happens s [] c.new-cell.ensures.behind in
    let p = err_from_is_err_and c.from_residual.result c.from_residual.ensures.1 in
    rw (p.1, p.2) (not_admitted g.S.Pixel.Level.kind g.S.Selector.Rule.criterion s c.args.recipe.now f (length c.args.out.now) _ b.can.1)

pub returns-in_err-slip-clause-answer : goal.returns-in_err-slip-clause-answer
returns-in_err-slip-clause-answer g c =
    let s = setting c.args.width c.args.height (length c.args.block.now) in
    let f = map g.S.Pixel.Level.meaning c.args.frame.now in
    let b = c.in_ok-admit.ensures.happens s [] c.new-cell.ensures.behind in
    let d = c.in_err-slip.ensures.happens s _ b in
    let p = err_from_is_err_and c.from_residual-in_err-slip.result c.from_residual-in_err-slip.ensures.1 in
    rw (p.1, p.2) (not_laid g.S.Pixel.Level.kind g.S.Selector.Rule.criterion s c.args.recipe.now f (length c.args.out.now) c.in_ok-admit.field-0 b.can.1 _ d.can.1)

pub unreachable-requires : goal.unreachable-requires
unreachable-requires g c =
    let s = setting c.args.width c.args.height (length c.args.block.now) in
    let f = map g.S.Pixel.Level.meaning c.args.frame.now in
    let b = c.in_ok-admit.ensures.happens s [] c.new-cell.ensures.behind in
    let d = c.step.ensures.happens s _ (c.in_ok-slip.ensures.happens s _ b) in
    let e = c.in-Err-clear.ensures.happens s _ (c.in-Err.ensures.happens s _ d) in
    ends g.S.Pixel.Level.kind g.S.Selector.Rule.criterion s c.args.recipe.now f (length c.args.out.now) c.in_ok-admit.field-0
    (step_answer c.step.result) (cell_refusal c.in-Err.fault) (cell_refusal c.in-Err-clear.field-0-0) e.can

pub returns-in-Ok-clause-answer : goal.returns-in-Ok-clause-answer
returns-in-Ok-clause-answer g c =
    let s = setting c.args.width c.args.height (length c.args.block.now) in
    let f = map g.S.Pixel.Level.meaning c.args.frame.now in
    let b1 = c.in_ok-admit.ensures.happens s [] c.new-cell.ensures.behind in
    let b2 = c.in_ok-slip.ensures.happens s _ b1 in
    let b3 = c.step.ensures.happens s _ b2 in
    let b4 = c.in-Ok.ensures.happens s _ b3 in
    ran g.S.Pixel.Level.kind g.S.Selector.Rule.criterion s c.args.recipe.now f (length c.args.out.now) c.in_ok-admit.field-0 b1.can.1 _ _ b2.can.1 b3.can.1 b4.can.1

pub returns-in-Ok-clause-output : goal.returns-in-Ok-clause-output
returns-in-Ok-clause-output g c =
    let s = setting c.args.width c.args.height (length c.args.block.now) in
    let f = map g.S.Pixel.Level.meaning c.args.frame.now in
    let b1 = c.in_ok-admit.ensures.happens s [] c.new-cell.ensures.behind in
    let b2 = c.in_ok-slip.ensures.happens s _ b1 in
    let b4 = c.in-Ok.ensures.happens s _ (c.step.ensures.happens s _ b2) in
    pictured g.S.Pixel.Level.kind g.S.Selector.Rule.criterion s c.args.recipe.now f (length c.args.out.now) c.in_ok-admit.field-0 (step_answer c.step.result) _ b4.can

pub returns-in-Ok-clear-clause-answer : goal.returns-in-Ok-clear-clause-answer
returns-in-Ok-clear-clause-answer g c =
    let s = setting c.args.width c.args.height (length c.args.block.now) in
    let f = map g.S.Pixel.Level.meaning c.args.frame.now in
    let b1 = c.in_ok-admit.ensures.happens s [] c.new-cell.ensures.behind in
    let b2 = c.in_ok-slip.ensures.happens s _ b1 in
    let b3 = c.step.ensures.happens s _ b2 in
    let b4 = c.in-Err.ensures.happens s _ b3 in
    ran g.S.Pixel.Level.kind g.S.Selector.Rule.criterion s c.args.recipe.now f (length c.args.out.now) c.in_ok-admit.field-0 b1.can.1 _ _ b2.can.1 b3.can.1 b4.can.1
