-- What a selected pixel is, by a relation between windows.
use Rattle.std.specs.Prelude.{◌≡◌, ℕ, true}
use Rattle.level.specs.declared.side.Side.{Side}
use Rattle.level.specs.Kind.{Kind}
use Rattle.rule.specs.Ranks.{Numbers, numbers}
use Rattle.rule.specs.Fractions.{rounded}
use Rattle.rule.specs.Criterion.{Criterion}
use Rattle.rule.specs.Choice.{Ahead}
use Rattle.recipe.specs.Elements.{Offsets, turned}
use Rattle.steps.specs.Images.{Size, Place, Inside, Image, moved}
use Rattle.steps.specs.Selections.{ranks_seen, selected}
use Rattle.promise.specs.Morphology.{Leads}

module _ (K : Kind) (s : Size) (E : Offsets) (f : Image K) (p : Place) where
  -- the window, by the element turned, of the centre that offset b leads to
  abbrev pub window : ℕ → Numbers
  window b = numbers (ranks_seen K s (turned E) f (moved p b))

  module _ (C : Criterion) (d : Side) where
    -- the window of offset c is a best candidate: it is ahead of every other, or level with it
    abbrev pub BestWindow : ℕ → Type 0
    BestWindow c = Leads s E p c × ((b : ℕ) → Leads s E p b → Ahead C d (K.rank (f p)) (window c) (window b))

    -- what the pixel at p becomes
    pub record Selection : Type 0 where
      -- where there is a candidate, there is a best one
      pub some : (b : ℕ) → Leads s E p b → (c : ℕ) × BestWindow c
      -- the pixel is the level at the rounded value of every best one
      pub every : (c : ℕ) → BestWindow c → selected K s C d E f p ≡ K.at (rounded d (C.value (window c)))
      -- without a candidate it remains
      pub none : ((b : ℕ) → Leads s E p b → ⊥) → selected K s C d E f p ≡ f p

-- selecting, for every ranked kind and every rule
abbrev pub SelectionLaw : Kind → Criterion → Type 0
SelectionLaw K C =
    K.ranked ≡ true → (s : Size) (E : Offsets) (f : Image K) (p : Place) → Inside s p → (d : Side) → Selection K s E f p C d
