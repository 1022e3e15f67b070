-- The delivered kinds, and the level that each value of theirs means. Pairs are in Pairs.
use Rattle.std.specs.Prelude.{ℕ, ◌+◌, ◌-◌, ◌^◌, ◌<◌, Bool, cond, ℤ, pos, negsuc}
use Rattle.level.specs.Kind.{Kind}
use Rattle.level.specs.Chain.{Rank, chain, clamped}
use Rattle.level.specs.Flags.{Set, flags, first_flags}

-- grey: the rank is the value
abbrev pub greys : Kind
greys = chain 255 tt

abbrev pub grey : ℕ → Rank 255
grey n = clamped 255 n

-- height: the rank is how far it is above -32,768
abbrev pub heights : Kind
heights = chain 65535 tt

abbrev pub raised : ℤ → ℕ
raised (pos n) = 32768 + n
raised (negsuc n) = 32767 - n

abbrev pub height : ℤ → Rank 65535
height v = clamped 65535 (raised v)

-- mask: no is at rank 0, yes at rank 1
abbrev pub masks : Kind
masks = chain 1 tt

abbrev pub mask : Bool → Rank 1
mask b = clamped 1 (cond b 1 0)

-- labels: sixteen flags, of which 0 to 11 are the level and 12 to 15 the camera's
abbrev pub labels : Kind
labels = flags 12

abbrev pub label : ℕ → Set 12
label x = first_flags 12 x

-- the camera's flags are 0
abbrev pub Clear : ℕ → Type 0
Clear x = x < 2 ^ 12
