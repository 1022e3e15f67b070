-- The image of a recipe: its records on a stack of images, over a frame.
use Rattle.std.specs.Prelude.{ℕ, ◌+◌, ◌/◌, List, [], ◌∷◌}
use Rattle.level.specs.declared.side.Side.{Side}
use Rattle.level.specs.declared.side.Side.TheVariants.{Low, High}
use Rattle.level.specs.Kind.{Kind}
use Rattle.rule.specs.Criterion.{Criterion}
use Rattle.recipe.specs.declared.step.Step.{Step}
use Rattle.recipe.specs.Elements.{offsets}
use Rattle.recipe.specs.Steps.{Change, negation, folding, filtering, selecting, Merge, bounding, averaging}
use Rattle.recipe.specs.Machines.{Machine, run}
use Rattle.steps.specs.Images.{Size, Image, bound, folded, filtered, negative}
use Rattle.steps.specs.Selections.{selected}

-- what is added so that a half goes down or up
abbrev pub half : Side → ℕ
half Low = 0
half High = 1

-- the level at the mean of two ranks, a half going down (low) or up (high)
abbrev pub mean : (K : Kind) → Side → K.Level → K.Level → K.Level
mean K d a b = K.at ((K.rank a + K.rank b + half d) / 2)

-- one level made of two
abbrev pub merge_levels : (K : Kind) → Merge → K.Level → K.Level → K.Level
merge_levels K (bounding d) = bound K d
merge_levels K (averaging d) = mean K d

abbrev pub merged : (K : Kind) → Merge → Image K → Image K → Image K
merged K m f g p = merge_levels K m (f p) (g p)

module _ (K : Kind) (C : Criterion) (s : Size) where
  abbrev pub changed : Change → Image K → Image K
  changed negation f = negative K f
  changed (folding d n) f = folded K s d (offsets n) f
  changed (filtering d n) f = filtered K s d (offsets n) f
  changed (selecting d n) f = selected K s C d (offsets n) f

  -- the steps on planes, over one laid frame
  abbrev pub on_planes : Image K → Machine (Image K)
  on_planes f = record { begin = f; one = changed; two = merged K }

  -- the planes that steps leave, the top one first
  abbrev pub planes : List Step → Image K → List (Image K)
  planes steps f = run (on_planes f) steps []

-- the top of a stack, or the first argument where it is empty
abbrev pub top_of : {A : Type 0} → A → List A → A
top_of a [] = a
top_of a (b ∷ st) = b

-- the image of a recipe: the last plane that its steps make of a frame
abbrev pub image : (K : Kind) → Criterion → Size → List Step → Image K → Image K
image K C s steps f = top_of f (planes K C s steps f)
