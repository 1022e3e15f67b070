-- Images of one size; erosion, dilation, opening and closing.
use Rattle.std.specs.Prelude.{◌≡◌, ℕ, ◌+◌, ◌-◌, ◌/◌, ◌%◌, ◌<◌, ◌≤◌, Bool, ◌&&◌, nat_le, nat_lt}
use Rattle.level.specs.declared.side.Side.{Side}
use Rattle.level.specs.declared.side.Side.TheVariants.{Low, High}
use Rattle.level.specs.Sides.{opposite}
use Rattle.level.specs.Kind.{Kind}
use Rattle.recipe.specs.Elements.{Offsets, turned, gather}

pub record Size : Type 0 where
  pub width : ℕ
  pub height : ℕ

-- the sizes that a frame can have
pub record Sized (s : Size) : Type 0 where
  pub some_columns : 1 ≤ s.width
  pub few_columns : s.width ≤ 256
  pub some_rows : 1 ≤ s.height
  pub few_rows : s.height ≤ 256

pub record Place : Type 0 where
  pub column : ℕ
  pub row : ℕ

-- the place is one of the frame's
abbrev pub Inside : Size → Place → Type 0
Inside s p = (p.column < s.width) × (p.row < s.height)

-- an image has a level at each place, of which those inside count
abbrev pub Image : Kind → Type 0
Image K = Place → K.Level

-- where an offset leads, if that is inside
abbrev pub moved : Place → ℕ → Place
moved p b = record { column = p.column + b % 5 - 2; row = p.row + b / 5 - 2 }

-- a column or row, counted from two before the first, is one of the n that there are
abbrev pub among : ℕ → ℕ → Bool
among n x = nat_le 2 x && nat_lt x (n + 2)

-- an offset leads inside
abbrev pub lands : Size → Place → ℕ → Bool
lands s p b = among s.width (p.column + b % 5) && among s.height (p.row + b / 5)

-- the meet (low) or the join (high) of two levels
abbrev pub bound : (K : Kind) → Side → K.Level → K.Level → K.Level
bound K Low = K.meet
bound K High = K.join

-- the bound of no level: the greatest (low), the least (high)
abbrev pub unbounded : (K : Kind) → Side → K.Level
unbounded K Low = K.greatest
unbounded K High = K.least

module _ (K : Kind) (s : Size) where
  -- erosion (low) and dilation (high): each place becomes the bound of the levels that the element leads to inside
  abbrev pub folded : Side → Offsets → Image K → Image K
  folded d E f p = gather (bound K d) (unbounded K d) (λ b. E b && lands s p b) (λ b. f (moved p b)) 25

  -- opening (low): eroded by the element turned, then dilated by it; closing (high): dilated first, then eroded
  abbrev pub filtered : Side → Offsets → Image K → Image K
  filtered d E f = folded (opposite d) E (folded d (turned E) f)

  -- g is below f
  abbrev pub Below : Image K → Image K → Type 0
  Below g f = (p : Place) → Inside s p → K.◌⊑◌ (g p) (f p)

  -- the two have the same levels
  abbrev pub Same : Image K → Image K → Type 0
  Same g f = (p : Place) → Inside s p → g p ≡ f p

-- each level negated
abbrev pub negative : (K : Kind) → Image K → Image K
negative K f p = K.negation (f p)
