-- Every chain of opens and closes by one element settles.
use Rattle.std.proofs.Common.{List, [], ◌∷◌}
use Rattle.level.specs.declared.side.Side.{Side}
use Rattle.level.specs.declared.side.Side.TheVariants.{Low, High}
use Rattle.level.specs.Kind.{Kind}
use Rattle.level.specs.Dual.{dual}
use Rattle.recipe.specs.Elements.{Offsets}
use Rattle.steps.specs.Images.{Size, filtered, Below}
use Rattle.promise.specs.Operators.{Operator, Settles}
use Rattle.promise.specs.Morphology.{opened, closed, chain, ChainLaw}
use Rattle.promise.proofs.Adjoint.{opened_below, opened_keeps, opened_again}

-- a chain of two operators lies between them, where R is the order; so it can be shown to settle by induction
pub record Chained {A : Type 0} (R : A → A → Type 0) (low high op : A → A) : Type 0 where
  pub keeps : (f g : A) → R f g → R (op f) (op g)
  pub over : (f : A) → R (low f) (op f)
  pub under : (f : A) → R (op f) (high f)
  pub again : (f : A) → R (op (op f)) (op f)
  pub back : (f : A) → R (op f) (op (op f))

-- the same where the order is reversed
pub chained_over : {A : Type 0} {R : A → A → Type 0} {low high op : A → A} → Chained R low high op → Chained (λ f g. R g f) high low op
chained_over c = record { keeps = λ f g h. c.keeps g f h; over = c.under; under = c.over; again = c.back; back = c.again }

-- a chain of the open and the close by one element
abbrev pub ChainOf : (K : Kind) → Size → Offsets → Operator K → Type 0
ChainOf K s E op = Chained (Below K s) (opened K s E) (closed K s E) op

pub chained_settles : (K : Kind) (s : Size) (E : Offsets) (op : Operator K) → ChainOf K s E op → Settles K s op
chained_settles K s E op c f p i = K.antisymmetric _ _ (c.again f p i) (c.back f p i)

module _ (K : Kind) (s : Size) (E : Offsets) where
  pub frame_chained : ChainOf K s E (λ f. f)
  frame_chained = record {
    keeps = λ f g h. h;
    over = opened_below K s E;
    under = opened_below (dual K) s E;
    again = λ f p i. K.reflexive _;
    back = λ f p i. K.reflexive _;
  }

  pub opened_chained : (op : Operator K) → ChainOf K s E op → ChainOf K s E (λ f. opened K s E (op f))
  opened_chained op c = record {
    keeps = λ f g h. opened_keeps K s E _ _ (c.keeps f g h);
    over = λ f p i. K.transitive _ _ _ (opened_again K s E f p i) (opened_keeps K s E _ _ (c.over f) p i);
    under = λ f p i. K.transitive _ _ _ (opened_below K s E (op f) p i) (c.under f p i);
    again = λ f. opened_keeps K s E _ _ (λ p i. K.transitive _ _ _ (c.keeps _ _ (opened_below K s E (op f)) p i) (c.again f p i));
    back = λ f p i. K.transitive _ _ _ (opened_again K s E (op f) p i)
        (opened_keeps K s E _ _ (λ q j. K.transitive _ _ _ (opened_again K s E (op f) q j) (c.over (opened K s E (op f)) q j)) p i);
  }

module _ (K : Kind) (s : Size) (E : Offsets) where
  filtered_chained : (d : Side) (op : Operator K) → ChainOf K s E op → ChainOf K s E (λ f. filtered K s d E (op f))
  filtered_chained Low op c = opened_chained K s E op c
  filtered_chained High op c = chained_over (opened_chained (dual K) s E op (chained_over c))

  pub chain_chained : (ds : List Side) → ChainOf K s E (chain K s E ds)
  chain_chained [] = frame_chained K s E
  chain_chained (d ∷ ds) = filtered_chained d (chain K s E ds) (chain_chained ds)

pub chain_law : (K : Kind) → ChainLaw K
chain_law K s E ds = let c = chain_chained K s E ds in (c.keeps, chained_settles K s E _ c)
