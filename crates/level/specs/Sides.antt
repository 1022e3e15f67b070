-- The two dual forms of an operation.
use Rattle.std.specs.Prelude.{Bool, true, false}
use Rattle.level.specs.declared.side.Side.{Side}
use Rattle.level.specs.declared.side.Side.TheVariants.{Low, High}

-- low for high, and high for low
abbrev pub opposite : Side → Side
opposite Low = High
opposite High = Low

-- the low form
abbrev pub is_low : Side → Bool
is_low Low = true
is_low High = false

-- the high form
abbrev pub is_high : Side → Bool
is_high Low = false
is_high High = true
