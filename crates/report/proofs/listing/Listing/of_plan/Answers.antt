use Rattle.std.proofs.Common.{◌≡◌, ℕ, ◌<◌, ◌≤◌, List, length, get_or, take, sym, ap, ◌∙◌, subst, arith, length-take-le}
use Rattle.recipe.specs.declared.plan.Plan.{Plan}
use Rattle.recipe.specs.declared.step.Step.{Step}
use Rattle.recipe.specs.declared.step.Step.TheVariants.{Frame}
use Rattle.report.specs.declared.line.Line.{Line}
use Rattle.report.specs.Lines.{lines_from, lines}
use Rattle.report.proofs.Walking.{steps_in, walked_on}
use Rattle.report.proofs.listing.Listing.of_plan.Goals as goal

-- a plan has as many steps as it says
counted : (plan : Plan) → length (steps_in plan) ≡ plan.count
counted plan = length-take-le plan.count plan.steps (omega (arith, plan.long, plan.few))

pub loop-i-preserved : goal.loop-i-preserved
loop-i-preserved c =
    let plan = c.args.plan.now in
    let less : c.loop-i.i < length (steps_in plan) = subst (λ xs. c.loop-i.i < length xs) c.steps-step-items.ensures c.loop-i-test.true in
    let room : c.loop-i.i < 64 = omega (arith, counted plan, plan.few, less) in
    walked_on c.loop-i.invariant less room plan.low _ (sym (ap (λ xs. get_or xs c.loop-i.i Frame) c.steps-step-items.ensures)) c.place.new.self c.place.result c.place.ensures.answer c.after.result c.after.ensures

-- all lines are written
filled : (xs : List Step) (ls : List Line) (i n : ℕ) → length xs ≤ i → i ≤ length xs → length xs ≡ n → take i ls ≡ lines_from xs i 0 → take n ls ≡ lines xs
filled xs ls i n l k e h =
    let all : i ≡ n = omega arith in
    subst (λ m. take m ls ≡ lines_from xs m 0) all h ∙ ap (λ m. lines_from xs m 0) (sym e)

pub returns-clause-lines : goal.returns-clause-lines
returns-clause-lines c =
    let plan = c.args.plan.now in
    let past : length (steps_in plan) ≤ c.loop-i.i = subst (λ xs. length xs ≤ c.loop-i.i) c.steps-step-items.ensures c.loop-i-test.false in
    let inside : c.loop-i.i ≤ length (steps_in plan) = subst (λ xs. c.loop-i.i ≤ length xs) c.steps-step-items.ensures c.loop-i.auto.i-end in
    filled (steps_in plan) c.loop-i.lines c.loop-i.i plan.count past inside (counted plan) c.loop-i.invariant.written
