-- A stack of planes in a block: the frame's plane first, then the stack's planes from the bottom up, then the scratch plane.
use Rattle.std.specs.Prelude.{◌≡◌, ℕ, ◌+◌, ◌*◌, ◌<◌, ◌≤◌, true, List, [], ◌∷◌, length, slice_index_or}
use Rattle.level.specs.Kind.{Kind}
use Rattle.rule.specs.Criterion.{Criterion}
use Rattle.recipe.specs.Steps.{Form, wants, adds, reads_ranks}
use Rattle.recipe.specs.Depths.{deeper}
use Rattle.recipe.specs.Machines.{by_form}
use Rattle.steps.specs.Images.{Size, Image}
use Rattle.steps.specs.Recipes.{on_planes}
use Rattle.steps.specs.Planes.{places, Holds, Spared}

-- where plane k of a block begins; plane 0 is the frame's
abbrev pub plane_at : Size → ℕ → ℕ
plane_at s k = k * places s

-- the stack's planes hold these images, the top one first
abbrev pub Stacked : (K : Kind) {X : Type 0} → (X → K.Level) → Size → List X → List (Image K) → Type 0
Stacked K m s block [] = Unit {0}
Stacked K m s block (f ∷ st) = Holds K m s block (plane_at s (1 + length st)) f × Stacked K m s block st

-- a block of `long` levels, with room for so many stack planes, is ready for a step of this form on a stack of this depth
pub record Ready (K : Kind) (s : Size) (F : Form) (planes depth long : ℕ) : Type 0 where
  pub room : plane_at s (2 + planes) ≤ long
  pub deep : wants F ≤ depth
  pub low : depth ≤ planes
  pub lower : adds F ≡ true → depth < planes
  pub ranked : reads_ranks F ≡ true → K.ranked ≡ true

-- the block after a step of this form
pub record Applied (K : Kind) {X : Type 0} (m : X → K.Level) (C : Criterion) (s : Size) (F : Form) (planes depth : ℕ) (before after : List X) : Type 0 where
  -- the stack's planes hold what the step makes of the images that they held, over the frame
  pub stack : (f : Image K) (st : List (Image K)) → length st ≡ depth → Holds K m s before 0 f → Stacked K m s before st →
      Stacked K m s after (by_form (on_planes K C s f) F st)
  -- every level but those of the plane that is on top now and those of the scratch plane is as it was
  pub kept : Spared (plane_at s (deeper F depth)) (plane_at s (1 + planes)) (places s) before after
  -- so is the frame's plane
  pub frame : (k : ℕ) (d : X) → k < places s → slice_index_or after k d ≡ slice_index_or before k d
  -- and every level after the scratch plane
  pub beyond : (k : ℕ) (d : X) → plane_at s (2 + planes) ≤ k → slice_index_or after k d ≡ slice_index_or before k d
