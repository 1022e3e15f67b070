use Rattle.std.proofs.Common.{◌≡◌, ◌≤◌, Some, sym, refl, ap, ◌∙◌, subst, arith}
use Rattle.recipe.specs.Elements.{offsets, turned, gather}
use Rattle.rule.specs.Views.{standing}
use Rattle.rule.specs.Choice.{best, settled, selection}
use Rattle.steps.specs.Images.{moved}
use Rattle.steps.specs.Selections.{candidates}
use Rattle.steps.specs.Places.{place_of}
use Rattle.steps.specs.Planes.{size_of, Holds}
use Rattle.steps.proofs.Selecting.{candidates_upto, unseen, window_some, no_window, selection_top, window_there, best_left, best_taken}
use Rattle.steps.proofs.select.selected_at.Goals as goal
use Rattle.steps.proofs.select.selected_at.Goals.{in-Some+in-Some-window_at, in-Some+in_default-window_at, in_default}

pub loop-b-init : goal.loop-b-init
unfolding gather
loop-b-init g c f held = refl

pub loop-b-preserved : goal.loop-b-preserved
loop-b-preserved g c f held =
    let K = g.L.Level.kind in
    let C = g.R.Rule.criterion in
    let s = size_of c.args.place.extent in
    let E = offsets c.args.element in
    let p = place_of c.args.place in
    let b = c.loop-b.b in
    let was = c.loop-b.invariant f held in
    elim c.match-seen.branch [
      | in-Some+in-Some-window_at w ↦
          let there = subst (λ s. Holds K g.L.Level.meaning s c.args.block.now c.args.at f) (sym w.in-Some.ensures.1) held in
          best_taken K s E f p b C c.args.side _ _ _ w.in-Some-window_at.window w.better.result w.in-Some.ensures.0 w.best-is
          (window_there K s _ (turned E) _ f (moved p b) _ (Some w.in-Some-window_at.window) w.in-Some.ensures.1 w.in-Some.ensures.2 c.requires.turned (w.in-Some-window_at.ensures f there))
          w.better.ensures was
      | in-Some+in_default-window_at w ↦
          let there = subst (λ s. Holds K g.L.Level.meaning s c.args.block.now c.args.at f) (sym w.in-Some.ensures.1) held in
          let some = window_some K s E f p (c.args.place.left, c.args.place.above) c.requires.ranked b (omega arith) w.in-Some.ensures.0 in
          absurd (no_window _ w.window_at.result some
          (window_there K s _ (turned E) _ f (moved p b) _ _ w.in-Some.ensures.1 w.in-Some.ensures.2 c.requires.turned (w.window_at.ensures f there)) w.in_default-window_at.not-Some)
      | in_default w ↦ best_left K s E f p b C c.args.side _ _ _ (unseen _ _ _ c.seen.ensures w.in_default.not-Some) w.best-is was
    ]

pub returns : goal.returns
returns g c f held =
    let K = g.L.Level.kind in
    let s = size_of c.args.place.extent in
    let E = offsets c.args.element in
    let p = place_of c.args.place in
    let C = g.R.Rule.criterion in
    let side = c.args.side in
    let all : c.loop-b.b ≡ 25 = omega arith in
    let rank : c.rank-rank.result ≡ K.rank (f p) = c.rank-rank.ensures c.requires.ranked ∙ ap K.rank (c.level_at.ensures f held) in
    let ends = subst (λ n. standing c.loop-b.best ≡ best C side c.rank-rank.result (candidates_upto K s E f p n)) all (c.loop-b.invariant f held) in
    let is : c.settled.result ≡ selection C side (K.rank (f p)) (candidates K s E f p) =
    c.settled.ensures ∙ (ap (settled C side c.rank-rank.result) ends ∙ ap (λ x. selection C side x (candidates K s E f p)) rank) in
    let small = selection_top K s E f p (c.args.place.left, c.args.place.above) c.requires.ranked C side in
    c.at.ensures c.requires.ranked (subst (λ r. r ≤ K.top) (sym is) small) ∙ ap K.at is
