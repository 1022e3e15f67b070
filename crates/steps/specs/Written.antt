-- What the inner loops write: rows of a plane.
use Rattle.std.specs.Prelude.{◌≡◌, ℕ, ◌+◌, ◌-◌, ◌<◌, cond, List, slice_index_or}
use Rattle.level.specs.declared.side.Side.{Side}
use Rattle.level.specs.Kind.{Kind}
use Rattle.recipe.specs.Elements.{Offsets}
use Rattle.steps.specs.Images.{Size, Image, among, bound, folded}
use Rattle.steps.specs.Planes.{Holds, Kept}

-- the n levels from `at` on are one level
pub record Filled {X : Type 0} (level : X) (at n : ℕ) (before after : List X) : Type 0 where
  pub same : (k : ℕ) (d : X) → k < n → slice_index_or after (at + k) d ≡ level
  pub kept : Kept at n before after

-- each of the n levels from `lower` on is what can become of it and the level as far from `upper`
pub record MergedBy {X : Type 0} (becomes : X → X → X → Type 0) (lower upper n : ℕ) (before after : List X) : Type 0 where
  pub levels : (k : ℕ) (d : X) → k < n → becomes (slice_index_or before (lower + k) d) (slice_index_or before (upper + k) d) (slice_index_or after (lower + k) d)
  pub kept : Kept lower n before after

module _ (K : Kind) {X : Type 0} (m : X → K.Level) (side : Side) where
  -- the row of w levels at `from`, moved by i - 2 columns, is bounded into the row at `to`, where it is inside
  pub record Bounded (w i from to : ℕ) (before after : List X) : Type 0 where
    pub levels : (x : ℕ) (d : X) → x < w →
        m (slice_index_or after (to + x) d)
        ≡ cond (among w (x + i)) (bound K side (m (slice_index_or before (to + x) d)) (m (slice_index_or before (from + (x + i - 2)) d))) (m (slice_index_or before (to + x) d))
    pub kept : Kept to w before after

  -- the row at `to` is row y of what the plane at `from` is folded to by E
  pub record RowFolded (s : Size) (E : Offsets) (y from to : ℕ) (before after : List X) : Type 0 where
    pub levels : (f : Image K) → Holds K m s before from f → (x : ℕ) (d : X) → x < s.width →
        m (slice_index_or after (to + x) d) ≡ folded K s side E f (record { column = x; row = y })
    pub kept : Kept to s.width before after
