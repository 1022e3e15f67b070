-- Dilation by an element and erosion by the element turned are adjoint; opening is below, keeps the order and is idempotent.
use Rattle.level.specs.Kind.{Kind}
use Rattle.level.specs.Dual.{dual}
use Rattle.recipe.specs.Elements.{Offsets, turned}
use Rattle.steps.specs.Images.{Size, Image, Below}
use Rattle.promise.specs.Operators.{BelowFrame, OrderKept}
use Rattle.promise.specs.Morphology.{eroded, dilated, opened}
use Rattle.promise.proofs.Seen.{turn, turn_back, eroded_lower, eroded_most}

pub eroded_keeps : (K : Kind) (s : Size) (E : Offsets) → OrderKept K s (eroded K s E)
eroded_keeps K s E f g h p i = eroded_most K s E g p _ (λ q v. K.transitive _ _ _ (eroded_lower K s E f v) (h q v.inside))

module _ (K : Kind) (s : Size) (E : Offsets) where
  dilated_keeps : OrderKept K s (dilated K s E)
  dilated_keeps f g h = eroded_keeps (dual K) s E g f h

  pub up : (f g : Image K) → Below K s (dilated K s E f) g → Below K s f (eroded K s (turned E) g)
  up f g h q i =
      eroded_most K s (turned E) g q _ (λ p v. K.transitive _ _ _ (eroded_lower (dual K) s E f (turn_back i v)) (h p v.inside))

  pub down : (f g : Image K) → Below K s f (eroded K s (turned E) g) → Below K s (dilated K s E f) g
  down f g h p i =
      eroded_most (dual K) s E f p _ (λ q v. K.transitive _ _ _ (h q v.inside) (eroded_lower K s (turned E) g (turn i v)))

  -- by the adjunction and the order alone
  pub opened_below : BelowFrame K s (opened K s E)
  opened_below f = down (eroded K s (turned E) f) f (λ p i. K.reflexive _)

  pub opened_keeps : OrderKept K s (opened K s E)
  opened_keeps f g h = dilated_keeps _ _ (eroded_keeps K s (turned E) f g h)

  pub opened_again : (f : Image K) → Below K s (opened K s E f) (opened K s E (opened K s E f))
  opened_again f = dilated_keeps _ _ (up (eroded K s (turned E) f) _ (λ p i. K.reflexive _))
