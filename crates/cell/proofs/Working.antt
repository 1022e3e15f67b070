-- What a record that is done leaves on the block.
use Rattle.std.proofs.Common.{◌≡◌, ℕ, ◌+◌, ◌<◌, ◌≤◌, true, List, [], ◌∷◌, length, get_or, take, sym, refl, ap, ◌∙◌, subst, arith}
use Rattle.std.proofs.lemmas.List.{take_more}
use Rattle.level.specs.Kind.{Kind}
use Rattle.rule.specs.Criterion.{Criterion}
use Rattle.recipe.specs.declared.plan.Plan.{Plan}
use Rattle.recipe.specs.declared.step.Step.TheVariants.{Frame}
use Rattle.recipe.specs.Steps.{Form, start, change, merge, form, wants, adds}
use Rattle.recipe.specs.Machines.{stepped, run}
use Rattle.recipe.specs.Depths.{deeper}
use Rattle.recipe.proofs.Checking.{by_form_length}
use Rattle.recipe.proofs.Machining.{run_after}
use Rattle.steps.specs.Images.{Size, Image}
use Rattle.steps.specs.Planes.{index}
use Rattle.steps.specs.Recipes.{on_planes}
use Rattle.steps.specs.Stacks.{plane_at, Stacked, Ready, Applied}
use Rattle.steps.proofs.Written.{index_fits}
use Rattle.cell.specs.declared.run.Run.{Run}
use Rattle.cell.specs.Shows.{steps_in, standing, Shows, Housed, Worked}
use Rattle.cell.proofs.Running.{counted_steps, next_step, next_is, next_ranks, next_planes, next_room}

-- what adds a plane makes the stack deeper by one
adds_deeper : (F : Form) (d p : ℕ) → deeper F d ≤ p → adds F ≡ true → d < p
adds_deeper start d p l e = omega arith
adds_deeper (change c) d p l e = absurd (let z : ◌≡◌ {A = ℕ} 0 1 = cc in omega arith)
adds_deeper (merge m) d p l e = absurd (let z : ◌≡◌ {A = ℕ} 0 1 = cc in omega arith)

pub ready : (K : Kind) (s : Size) (r : Run) (long : ℕ) → r.done < r.plan.count → Housed K s r.plan long →
    Ready K s (form (next_step r)) r.plan.sheet.planes r.depth long
ready K s r long less h = record {
  room = h.room;
  deep = next_planes r less;
  low = r.low;
  lower = adds_deeper (form (next_step r)) r.depth r.plan.sheet.planes (next_room r less);
  ranked = λ e. h.ranks (next_ranks r less e);
}

module _ (K : Kind) {X : Type 0} (m : X → K.Level) (C : Criterion) (s : Size) where
  -- the stack of one record more
  standing_next :
      (f : Image K) (r r' : Run) → r.done < r.plan.count → r'.plan ≡ r.plan → r'.done ≡ r.done + 1 →
      standing K C s f r' ≡ stepped (on_planes K C s f) (next_step r) (standing K C s f r)
  standing_next f r r' less same more =
      let xs = steps_in r.plan in
      ap (λ (p : Plan). run (on_planes K C s f) (take r'.done (steps_in p)) []) same
      ∙ (ap (λ k. run (on_planes K C s f) (take k xs) []) more
      ∙ (ap (λ ys. run (on_planes K C s f) ys []) (take_more xs r.done Frame (omega (arith, counted_steps r.plan)))
      ∙ (run_after (on_planes K C s f) (take r.done xs) (get_or xs r.done Frame ∷ []) []
      ∙ ap (λ x. stepped (on_planes K C s f) x (standing K C s f r)) (next_is r less))))

  module _ (r r' : Run) (before after : List X) (less : r.done < r.plan.count) (same : r'.plan ≡ r.plan) (more : r'.done ≡ r.done + 1)
      (deep : r'.depth ≡ deeper (form (next_step r)) r.depth) (long : length after ≡ length before)
      (applied : Applied K m C s (form (next_step r)) r.plan.sheet.planes r.depth before after) where
    shows_next : (f : Image K) → Shows K m C s f r before → Shows K m C s f r' after
    shows_next f w =
        let st = standing K C s f r in
        let now = standing_next f r r' less same more in
        record {
          frame = λ p d i. let fits = index_fits s p i in ap m (applied.frame (0 + index s p) d (omega arith)) ∙ w.frame p d i;
          deep =
              ap length now
              ∙ (by_form_length (on_planes K C s f) (form (next_step r)) st (subst (λ d. wants (form (next_step r)) ≤ d) (sym w.deep) (next_planes r less))
              ∙ (ap (deeper (form (next_step r))) w.deep ∙ sym deep));
          stack = subst (Stacked K m s after) (sym now) (applied.stack f st w.deep w.frame w.stack);
        }

    pub worked_one : Worked K m C s 1 r r' before after
    worked_one = record {
      plan = same;
      done = more;
      leaves = record { long = long; frame = applied.frame; beyond = applied.beyond };
      shows = shows_next;
    }

  pub worked_none : (r : Run) (block : List X) → Worked K m C s 0 r r block block
  worked_none r block = record {
    plan = refl;
    done = omega arith;
    leaves = record { long = refl; frame = λ k d h. refl; beyond = λ k d h. refl };
    shows = λ f w. w;
  }

  pub worked_more :
      (n : ℕ) (r r' r'' : Run) (a b c : List X) → Worked K m C s n r r' a b → Worked K m C s 1 r' r'' b c → Worked K m C s (n + 1) r r'' a c
  worked_more n r r' r'' a b c v w = record {
    plan = w.plan ∙ v.plan;
    done = omega (arith, v.done, w.done);
    leaves = record {
      long = w.leaves.long ∙ v.leaves.long;
      frame = λ k d h. w.leaves.frame k d h ∙ v.leaves.frame k d h;
      beyond = λ k d h. w.leaves.beyond k d (subst (λ (p : Plan). plane_at s (2 + p.sheet.planes) ≤ k) (sym v.plan) h) ∙ v.leaves.beyond k d h;
    };
    shows = λ f x. w.shows f (v.shows f x);
  }
