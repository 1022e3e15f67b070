-- Planes: parts of a lent block that hold an image, row by row from the top.
use Rattle.std.specs.Prelude.{◌≡◌, ℕ, ◌+◌, ◌*◌, ◌<◌, ◌≤◌, ◌⊎◌, List, slice_index_or}
use Rattle.level.specs.Kind.{Kind}
use Rattle.steps.specs.declared.extent.Extent.{Extent}
use Rattle.steps.specs.Images.{Size, Place, Inside, Image}

-- the size that an extent is
abbrev pub size_of : Extent → Size
size_of e = record { width = e.width; height = e.height }

-- how many places an image has
abbrev pub places : Size → ℕ
places s = s.width * s.height

-- where the level of a place stands in a plane
abbrev pub index : Size → Place → ℕ
index s p = p.row * s.width + p.column

-- the plane that begins at `at` holds the image f; m says what a level means, and d is there only for `slice_index_or`
abbrev pub Holds : (K : Kind) {X : Type 0} → (X → K.Level) → Size → List X → ℕ → Image K → Type 0
Holds K {X} m s block at f = (p : Place) (d : X) → Inside s p → m (slice_index_or block (at + index s p) d) ≡ f p

-- k is none of the n indices from `at` on
abbrev pub Outside : ℕ → ℕ → ℕ → Type 0
Outside at n k = at ≤ k → k < at + n → ⊥

-- every level but the n from `at` on is as it was
abbrev pub Kept : {X : Type 0} → ℕ → ℕ → List X → List X → Type 0
Kept {X} at n before after = (k : ℕ) (d : X) → Outside at n k → slice_index_or after k d ≡ slice_index_or before k d

-- every level but the n from `at` on and the n from `scratch` on is as it was
abbrev pub Spared : {X : Type 0} → ℕ → ℕ → ℕ → List X → List X → Type 0
Spared {X} at scratch n before after = (k : ℕ) (d : X) → Outside at n k → Outside scratch n k → slice_index_or after k d ≡ slice_index_or before k d

-- two parts of a block of `long` levels, m from a on and n from b on, that do not overlap
pub record Apart (long a m b n : ℕ) : Type 0 where
  pub first : a + m ≤ long
  pub second : b + n ≤ long
  pub apart : (a + m ≤ b) ⊎ (b + n ≤ a)

-- the n levels from `from` on now stand from `to` on too
pub record Copied {X : Type 0} (from to n : ℕ) (before after : List X) : Type 0 where
  pub same : (k : ℕ) (d : X) → k < n → slice_index_or after (to + k) d ≡ slice_index_or before (from + k) d
  pub kept : Kept to n before after

module _ (K : Kind) {X : Type 0} (m : X → K.Level) (s : Size) where
  -- the plane at `to` holds what φ makes of the image that the plane at `from` held
  pub record Made (φ : Image K → Image K) (from to : ℕ) (before after : List X) : Type 0 where
    pub made : (f : Image K) → Holds K m s before from f → Holds K m s after to (φ f)
    pub kept : Kept to (places s) before after

  -- the plane at `at` holds what φ makes of the image that it held; the plane at `scratch` may hold anything
  pub record Changed (φ : Image K → Image K) (at scratch : ℕ) (before after : List X) : Type 0 where
    pub made : (f : Image K) → Holds K m s before at f → Holds K m s after at (φ f)
    pub kept : Spared at scratch (places s) before after

  -- the plane at `lower` holds what φ makes of the images that the two planes held
  pub record Merged (φ : Image K → Image K → Image K) (lower upper : ℕ) (before after : List X) : Type 0 where
    pub made : (f g : Image K) → Holds K m s before lower f → Holds K m s before upper g → Holds K m s after lower (φ f g)
    pub kept : Kept lower (places s) before after
