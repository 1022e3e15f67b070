-- The laws of erosion, dilation, opening and closing by one element, and of chains of them.
use Rattle.std.specs.Prelude.{ℕ, ◌<◌, ◌&&◌, T, ◌↔◌, List, [], ◌∷◌}
use Rattle.level.specs.declared.side.Side.{Side}
use Rattle.level.specs.declared.side.Side.TheVariants.{Low, High}
use Rattle.level.specs.Kind.{Kind}
use Rattle.recipe.specs.Elements.{Offsets, turned}
use Rattle.steps.specs.Images.{Size, Place, Image, moved, lands, folded, filtered, Below}
use Rattle.promise.specs.Operators.{Operator, BelowFrame, AboveFrame, OrderKept, Settles}

-- offset b of the element leads from p to a place inside
abbrev pub Leads : Size → Offsets → Place → ℕ → Type 0
Leads s E p b = (b < 25) × T (E b && lands s p b)

module _ (K : Kind) (s : Size) (E : Offsets) where
  abbrev pub eroded : Operator K
  eroded = folded K s Low E

  abbrev pub dilated : Operator K
  dilated = folded K s High E

  abbrev pub opened : Operator K
  opened = filtered K s Low E

  abbrev pub closed : Operator K
  closed = filtered K s High E

  -- opens (low) and closes (high) one after another, the last one first
  abbrev pub chain : List Side → Operator K
  chain [] f = f
  chain (d ∷ ds) f = filtered K s d E (chain ds f)

-- what erosion, dilation, opening and closing by one element are to each other
pub record Morphology (K : Kind) (s : Size) (E : Offsets) : Type 0 where
  -- erosion is the greatest lower bound of the levels seen, and dilation the least upper bound
  pub erosion : (f : Image K) (p : Place) (a : K.Level) →
      K.◌⊑◌ a (eroded K s E f p) ↔ ((b : ℕ) → Leads s E p b → K.◌⊑◌ a (f (moved p b)))
  pub dilation : (f : Image K) (p : Place) (a : K.Level) →
      K.◌⊑◌ (dilated K s E f p) a ↔ ((b : ℕ) → Leads s E p b → K.◌⊑◌ (f (moved p b)) a)
  -- dilation and erosion by the element turned are adjoint
  pub adjoint : (f g : Image K) → Below K s (dilated K s E f) g ↔ Below K s f (eroded K s (turned E) g)
  -- opening goes down, closing goes up; both keep the order and settle at once
  pub opening_below : BelowFrame K s (opened K s E)
  pub opening_keeps : OrderKept K s (opened K s E)
  pub opening_settles : Settles K s (opened K s E)
  pub closing_above : AboveFrame K s (closed K s E)
  pub closing_keeps : OrderKept K s (closed K s E)
  pub closing_settles : Settles K s (closed K s E)

abbrev pub MorphologyLaw : Kind → Type 0
MorphologyLaw K = (s : Size) (E : Offsets) → Morphology K s E

-- every chain of opens and closes by one element keeps the order and settles at once
abbrev pub ChainLaw : Kind → Type 0
ChainLaw K = (s : Size) (E : Offsets) (ds : List Side) → OrderKept K s (chain K s E ds) × Settles K s (chain K s E ds)
