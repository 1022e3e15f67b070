-- What a run's invariant says of its next record.
use Rattle.std.proofs.Common.{◌≡◌, ℕ, ◌+◌, ◌<◌, ◌≤◌, Bool, true, false, not, ◌&&◌, ◌||◌, leb, [], ◌∷◌, length, get_or, drop, ap, ◌∙◌, subst, arith}
use Rattle.std.proofs.lemmas.List.{length-take-le, drop_more, drop_all, get_or-take}
use Rattle.std.proofs.lemmas.Bool.{and_parts, leb-true, eqb-true}
use Rattle.recipe.specs.declared.plan.Plan.{Plan}
use Rattle.recipe.specs.declared.step.Step.{Step}
use Rattle.recipe.specs.declared.step.Step.TheVariants.{Frame}
use Rattle.recipe.specs.Steps.{form, wants, reads_ranks}
use Rattle.recipe.specs.Depths.{deeper, runs}
use Rattle.cell.specs.declared.run.Run.{Run}
use Rattle.cell.specs.Shows.{steps_in}

-- a plan's steps are as many as it counts
pub counted_steps : (p : Plan) → length (steps_in p) ≡ p.count
counted_steps p = length-take-le p.count p.steps (omega arith)

-- the step of the next record
abbrev pub next_step : Run → Step
next_step r = get_or r.plan.steps r.done Frame

ranks_from : (a b : Bool) → (not a || b) ≡ true → a ≡ true → b ≡ true
ranks_from true b h e = h
ranks_from false b h e = absurd (let z : ◌≡◌ {A = ℕ} 0 1 = cc in omega arith)

module _ (r : Run) (less : r.done < r.plan.count) where
  pub next_is : get_or (steps_in r.plan) r.done Frame ≡ next_step r
  next_is = get_or-take r.plan.count r.plan.steps r.done Frame less

  unrolled : drop r.done (steps_in r.plan) ≡ next_step r ∷ drop (r.done + 1) (steps_in r.plan)
  unrolled =
      drop_more (steps_in r.plan) r.done Frame (omega (arith, counted_steps r.plan))
      ∙ ap (λ x. x ∷ drop (r.done + 1) (steps_in r.plan)) next_is

  -- its ranks, planes and room are there, and the records after it can run
  goes : runs r.plan.ranked r.plan.sheet.planes r.depth (next_step r ∷ drop (r.done + 1) (steps_in r.plan)) ≡ true
  goes = subst (λ xs. runs r.plan.ranked r.plan.sheet.planes r.depth xs ≡ true) unrolled r.sound

  pub next_ranks : reads_ranks (form (next_step r)) ≡ true → r.plan.ranked ≡ true
  next_ranks = ranks_from (reads_ranks (form (next_step r))) r.plan.ranked (and_parts _ _ goes).0

  -- past its ranks, past its planes, past its room
  more : (leb (wants (form (next_step r))) r.depth && (leb (deeper (form (next_step r)) r.depth) r.plan.sheet.planes && runs r.plan.ranked r.plan.sheet.planes (deeper (form (next_step r)) r.depth) (drop (r.done + 1) (steps_in r.plan)))) ≡ true
  more = (and_parts (not (reads_ranks (form (next_step r))) || r.plan.ranked) _ goes).1

  last : (leb (deeper (form (next_step r)) r.depth) r.plan.sheet.planes && runs r.plan.ranked r.plan.sheet.planes (deeper (form (next_step r)) r.depth) (drop (r.done + 1) (steps_in r.plan))) ≡ true
  last = (and_parts (leb (wants (form (next_step r))) r.depth) _ more).1

  pub next_planes : wants (form (next_step r)) ≤ r.depth
  next_planes = leb-true _ _ (and_parts _ _ more).0

  pub next_room : deeper (form (next_step r)) r.depth ≤ r.plan.sheet.planes
  next_room = leb-true _ _ (and_parts _ _ last).0

  pub next_sound : runs r.plan.ranked r.plan.sheet.planes (deeper (form (next_step r)) r.depth) (drop (r.done + 1) (steps_in r.plan)) ≡ true
  next_sound = (and_parts (leb (deeper (form (next_step r)) r.depth) r.plan.sheet.planes) _ last).1

-- a run with no record left has one plane
pub finished_depth : (r : Run) → r.plan.count ≤ r.done → 1 ≤ r.depth
finished_depth r all =
    let none : drop r.done (steps_in r.plan) ≡ [] = drop_all r.done (steps_in r.plan) (omega (arith, counted_steps r.plan)) in
    let one = subst (λ xs. runs r.plan.ranked r.plan.sheet.planes r.depth xs ≡ true) none r.sound in
    omega (arith, eqb-true r.depth 1 one)
