-- The laws of erosion, dilation, opening and closing, put together.
use Rattle.std.proofs.Common.{ℕ, ◌↔◌, [], ◌∷◌}
use Rattle.level.specs.declared.side.Side.TheVariants.{Low, High}
use Rattle.level.specs.Kind.{Kind}
use Rattle.level.specs.Dual.{dual}
use Rattle.recipe.specs.Elements.{Offsets}
use Rattle.steps.specs.Images.{Size, Place, Image, moved}
use Rattle.promise.specs.Morphology.{Leads, eroded, MorphologyLaw}
use Rattle.promise.proofs.Seen.{eroded_at, eroded_over}
use Rattle.promise.proofs.Adjoint.{up, down, opened_below}
use Rattle.promise.proofs.Chains.{chain_law}

greatest_below : (K : Kind) (s : Size) (E : Offsets) (f : Image K) (p : Place) (a : K.Level) →
    K.◌⊑◌ a (eroded K s E f p) ↔ ((b : ℕ) → Leads s E p b → K.◌⊑◌ a (f (moved p b)))
greatest_below K s E f p a = (λ h b l. K.transitive _ _ _ h (eroded_at K s E f p b l), eroded_over K s E f p a)

pub morphology_law : (K : Kind) → MorphologyLaw K
morphology_law K s E =
    let low = chain_law K s E (Low ∷ []) in
    let high = chain_law K s E (High ∷ []) in
    record {
      erosion = greatest_below K s E;
      dilation = greatest_below (dual K) s E;
      adjoint = λ f g. (up K s E f g, down K s E f g);
      opening_below = opened_below K s E;
      opening_keeps = low.0;
      opening_settles = low.1;
      closing_above = opened_below (dual K) s E;
      closing_keeps = high.0;
      closing_settles = high.1;
    }
