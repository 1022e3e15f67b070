-- A block that shows a run: the frame, and on the stack's planes the images of exactly the records done.
use Rattle.std.specs.Prelude.{◌≡◌, ℕ, ◌+◌, ◌<◌, ◌≤◌, true, List, length, take, slice_index_or}
use Rattle.level.specs.Kind.{Kind}
use Rattle.rule.specs.Criterion.{Criterion}
use Rattle.recipe.specs.declared.plan.Plan.{Plan}
use Rattle.recipe.specs.declared.step.Step.{Step}
use Rattle.steps.specs.Images.{Size, Image}
use Rattle.steps.specs.Planes.{places, Holds}
use Rattle.steps.specs.Recipes.{planes}
use Rattle.steps.specs.Stacks.{plane_at, Stacked}
use Rattle.cell.specs.declared.run.Run.{Run}

-- the steps of a plan
abbrev pub steps_in : Plan → List Step
steps_in p = take p.count p.steps

-- the planes that the records done make of a frame, the top one first
abbrev pub standing : (K : Kind) → Criterion → Size → Image K → Run → List (Image K)
standing K C s f r = planes K C s (take r.done (steps_in r.plan)) f

module _ (K : Kind) {X : Type 0} (m : X → K.Level) (C : Criterion) (s : Size) where
  pub record Shows (f : Image K) (r : Run) (block : List X) : Type 0 where
    pub frame : Holds K m s block 0 f
    pub deep : length (standing K C s f r) ≡ r.depth
    pub stack : Stacked K m s block (standing K C s f r)

-- the frame's plane, and what lies behind the scratch plane, has stayed
pub record Leaves {X : Type 0} (s : Size) (planes : ℕ) (before after : List X) : Type 0 where
  pub long : length after ≡ length before
  pub frame : (k : ℕ) (d : X) → k < places s → slice_index_or after k d ≡ slice_index_or before k d
  pub beyond : (k : ℕ) (d : X) → plane_at s (2 + planes) ≤ k → slice_index_or after k d ≡ slice_index_or before k d

-- a block of so many levels houses the plan, and the kind has ranks if the plan may read them
pub record Housed (K : Kind) (s : Size) (p : Plan) (long : ℕ) : Type 0 where
  pub room : plane_at s (2 + p.sheet.planes) ≤ long
  pub ranks : p.ranked ≡ true → K.ranked ≡ true

-- the run has done so many records more, on the block
pub record Worked (K : Kind) {X : Type 0} (m : X → K.Level) (C : Criterion) (s : Size) (count : ℕ) (r r' : Run) (before after : List X) : Type 0 where
  pub plan : r'.plan ≡ r.plan
  pub done : r'.done ≡ r.done + count
  pub leaves : Leaves s r.plan.sheet.planes before after
  pub shows : (f : Image K) → Shows K m C s f r before → Shows K m C s f r' after
