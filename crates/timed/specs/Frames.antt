-- The frame that is timed.
use Rattle.steps.specs.Images.{Size}

-- 256 columns and 256 rows
abbrev pub frame : Size
frame = record { width = 256; height = 256 }
