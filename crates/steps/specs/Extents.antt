-- The sizes that images have.
use Rattle.std.specs.Prelude.{ℕ, Bool, ◌&&◌, nat_le}

-- from 1 to 256
abbrev pub is_side : ℕ → Bool
is_side n = nat_le 1 n && nat_le n 256

-- each image has 1 to 256 columns and as many rows
abbrev pub is_size : ℕ → ℕ → Bool
is_size width height = is_side width && is_side height
