-- Frames and outputs are lists of levels, row by row from the top; read as images, and written from images.
use Rattle.std.specs.Prelude.{◌≡◌, ℕ, zero, suc, ◌+◌, ◌<◌, ◌≤◌, List, [], ◌∷◌, length, slice_index_or}
use Rattle.level.specs.Kind.{Kind}
use Rattle.steps.specs.Images.{Size, Image}
use Rattle.steps.specs.Planes.{places, index}
use Rattle.promise.specs.Operators.{nth}

-- the image that a list of levels is
abbrev pub picture : (K : Kind) → Size → List K.Level → Image K
picture K s levels p = slice_index_or levels (index s p) K.least

-- n values of a function, from its k-th on
abbrev pub counted : {A : Type 0} → (ℕ → A) → ℕ → ℕ → List A
counted g zero k = []
counted g (suc n) k = g k ∷ counted g n (k + 1)

-- the list of an image's levels
abbrev pub raster : (K : Kind) → Size → Image K → List K.Level
raster K s f = counted (λ k. f (nth s k)) (places s) 0

-- the block begins with the frame, and every other level is as it was
pub record Put {X : Type 0} (frame before after : List X) : Type 0 where
  pub long : length after ≡ length before
  pub front : (k : ℕ) (d : X) → k < length frame → slice_index_or after k d ≡ slice_index_or frame k d
  pub rest : (k : ℕ) (d : X) → length frame ≤ k → slice_index_or after k d ≡ slice_index_or before k d

-- the output holds the levels from `at` on
abbrev pub Got : {X : Type 0} → ℕ → List X → List X → Type 0
Got {X} at block out = (k : ℕ) (d : X) → k < length out → slice_index_or out k d ≡ slice_index_or block (at + k) d
