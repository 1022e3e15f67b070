-- What marks and reach say of an operator on the frames of one size.
use Rattle.std.specs.Prelude.{◌≡◌, ℕ, ◌+◌, ◌*◌, ◌/◌, ◌%◌, Bool, ◌&&◌, T, nat_le}
use Rattle.level.specs.declared.side.Side.{Side}
use Rattle.level.specs.declared.side.Side.TheVariants.{Low, High}
use Rattle.level.specs.Kind.{Kind}
use Rattle.recipe.specs.declared.entry.Marks.{Marks}
use Rattle.recipe.specs.Elements.{gather}
use Rattle.steps.specs.Images.{Size, Place, Inside, Image, bound, unbounded, Below, Same}

-- what is done to a frame
abbrev pub Operator : Kind → Type 0
Operator K = Image K → Image K

-- q is at most r columns and r rows away from p
abbrev pub near : ℕ → Place → Place → Bool
near r p q =
    nat_le p.column (q.column + r) && nat_le q.column (p.column + r)
    && (nat_le p.row (q.row + r) && nat_le q.row (p.row + r))

-- the frame's k-th place, row by row
abbrev pub nth : Size → ℕ → Place
nth s k = record { column = k % s.width; row = k / s.width }

module _ (K : Kind) (s : Size) where
  -- B: the image is below the frame
  abbrev pub BelowFrame : Operator K → Type 0
  BelowFrame op = (f : Image K) → Below K s (op f) f

  -- D: the frame is below the image
  abbrev pub AboveFrame : Operator K → Type 0
  AboveFrame op = (f : Image K) → Below K s f (op f)

  -- K: if one frame is below another, so are their images
  abbrev pub OrderKept : Operator K → Type 0
  OrderKept op = (f g : Image K) → Below K s f g → Below K s (op f) (op g)

  -- T: if one frame is below another, their images are the other way round
  abbrev pub OrderTurned : Operator K → Type 0
  OrderTurned op = (f g : Image K) → Below K s f g → Below K s (op g) (op f)

  -- S: the image, laid as a frame, gives itself
  abbrev pub Settles : Operator K → Type 0
  Settles op = (f : Image K) → Same K s (op (op f)) (op f)

  -- the meet (low) or the join (high) of a frame's levels within r of p
  abbrev pub bound_within : Side → ℕ → Image K → Place → K.Level
  bound_within d r f p = gather (bound K d) (unbounded K d) (λ k. near r p (nth s k)) (λ k. f (nth s k)) (s.width * s.height)

  -- W: each pixel lies between the meet and the join of the frame within r
  abbrev pub Within : ℕ → Operator K → Type 0
  Within r op =
      (f : Image K) (p : Place) → Inside s p →
      (K.◌⊑◌ (bound_within Low r f p) (op f p)) × (K.◌⊑◌ (op f p) (bound_within High r f p))

  -- reach: frames that agree everywhere within r of a place have images that agree there
  abbrev pub Reaches : ℕ → Operator K → Type 0
  Reaches r op =
      (f g : Image K) (p : Place) → Inside s p → ((q : Place) → Inside s q → T (near r p q) → f q ≡ g q) → op f p ≡ op g p

  -- each of the marks is true of the operator, W within r
  pub record Marked (r : ℕ) (m : Marks) (op : Operator K) : Type 0 where
    pub below : T m.below → BelowFrame op
    pub above : T m.above → AboveFrame op
    pub keeps : T m.keeps → OrderKept op
    pub turns : T m.turns → OrderTurned op
    pub settles : T m.settles → Settles op
    pub within : T m.within → Within r op
