use Rattle.std.proofs.Common.{◌≡◌, max, sym, refl, subst, arith}
use Rattle.recipe.specs.Elements.{gather, offsets, distance, GreatestDistance}
use Rattle.recipe.proofs.Gathered.{gather_taken, gather_left, radius_greatest}
use Rattle.recipe.proofs.element.Element.radius.Goals as goal
use Rattle.recipe.proofs.element.Element.radius.Goals.{then-has, else-has}

pub loop-b-init : goal.loop-b-init
unfolding gather
loop-b-init c = (refl, omega arith)

pub loop-b-preserved : goal.loop-b-preserved
loop-b-preserved c =
    let E = offsets c.args.self in
    let b = c.loop-b.b in
    let before = c.loop-b.invariant.0 in
    elim c.if-has.branch [
      | then-has w ↦
          let more = gather_taken max 0 E distance b (sym (w.if-has.ensures.0 c.loop-b-test.true)) in
          (omega arith, omega arith)
      | else-has w ↦
          let more = gather_left max 0 E distance b (sym (w.if-has.ensures.0 c.loop-b-test.true)) in
          (omega arith, omega arith)
    ]

pub returns-clause-means : goal.returns-clause-means
returns-clause-means c =
    let E = offsets c.args.self in
    let all : c.loop-b.b ≡ 25 = omega arith in
    let value = subst (λ b. c.loop-b.radius ≡ gather max 0 E distance b) all c.loop-b.invariant.0 in
    subst (GreatestDistance E) (sym value) (radius_greatest E)
