-- What a listing holds of the recipe that it lists.
use Rattle.std.specs.Prelude.{◌≡◌, ℕ, Bool, List, [], take}
use Rattle.recipe.specs.declared.entry.Sheet.{Sheet}
use Rattle.recipe.specs.Plans.{Answer, given, refused, checked, steps_of}
use Rattle.report.specs.declared.line.Line.{Line}
use Rattle.report.specs.declared.listing.Listing.{Listing}
use Rattle.report.specs.declared.verdict.Verdict.{Verdict}
use Rattle.report.specs.declared.verdict.Verdict.TheVariants.{Admitted, Refused}
use Rattle.report.specs.Lines.{lines}

-- the verdict of a check's answer
abbrev pub verdict_of : Answer Sheet → Verdict
verdict_of (given s) = Admitted s
verdict_of (refused r) = Refused r

-- one line a record of a recipe that is admitted; none of one that is refused
abbrev pub lines_told : Answer Sheet → List ℕ → List Line
lines_told (given s) bytes = lines (steps_of bytes)
lines_told (refused r) bytes = []

-- the lines that a listing shows
abbrev pub shown_lines : Listing → List Line
shown_lines l = take l.count l.lines

-- the listing of a recipe's bytes
pub record Lists (ranked : Bool) (bytes : List ℕ) (l : Listing) : Type 0 where
  pub lines_are : shown_lines l ≡ lines_told (checked ranked bytes) bytes
  pub verdict_is : l.verdict ≡ verdict_of (checked ranked bytes)
