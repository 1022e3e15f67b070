use Rattle.std.proofs.Common.{◌≡◌, sym, refl, ap, ◌∙◌, subst, arith}
use Rattle.recipe.specs.Elements.{offsets, gather}
use Rattle.rule.specs.Views.{Gathered}
use Rattle.steps.specs.Places.{place_of}
use Rattle.steps.specs.Planes.{size_of, Holds}
use Rattle.steps.proofs.Selecting.{ranks_upto, unseen, window_left, window_taken}
use Rattle.steps.proofs.select.window_at.Goals as goal
use Rattle.steps.proofs.select.window_at.Goals.{in-Some, in_default}

pub loop-b-init : goal.loop-b-init
unfolding gather
loop-b-init g c f held = refl

pub loop-b-preserved : goal.loop-b-preserved
loop-b-preserved g c f held =
    let K = g.L.Level.kind in
    let s = size_of c.args.place.extent in
    let E = offsets c.args.element in
    let was = c.loop-b.invariant f held in
    elim c.match-seen.branch [
      | in-Some w ↦
          let there = subst (λ s. Holds K g.L.Level.meaning s c.args.block.now c.args.at f) (sym w.in-Some.ensures.1) held in
          window_taken K s E f _ c.loop-b.b _ _ _ _ (omega arith) w.in-Some.ensures.0 w.window-is
          (w.rank.ensures c.requires.ranked ∙ ap K.rank (w.level_at.ensures f there ∙ ap f w.in-Some.ensures.2)) w.gathered.ensures.ranks was
      | in_default w ↦ window_left K s E f _ c.loop-b.b _ _ (unseen _ _ _ c.seen.ensures w.in_default.not-Some) w.window-is was
    ]

pub returns : goal.returns
returns g c f held =
    let e : c.loop-b.b ≡ 25 = omega arith in
    subst (λ n. Gathered c.loop-b.window (ranks_upto g.L.Level.kind (size_of c.args.place.extent) (offsets c.args.element) f (place_of c.args.place) n)) e (c.loop-b.invariant f held)
