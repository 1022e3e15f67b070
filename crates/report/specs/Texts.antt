-- The text of what is told of a recipe.
use Rattle.std.specs.Prelude.{ℕ, Bool, cond, not, ◌||◌, List, [], ◌∷◌, ◌++◌, Some, None, codes, decimal, Option}
use Rattle.recipe.specs.declared.entry.Marks.{Marks}
use Rattle.recipe.specs.Names.{name_of}
use Rattle.report.specs.declared.line.Line.{Line}
use Rattle.report.specs.declared.verdict.Verdict.{Verdict}
use Rattle.report.specs.declared.verdict.Verdict.TheVariants.{Admitted, Refused}

-- no mark stands
abbrev pub unmarked : Marks → Bool
unmarked m = not (((((m.below || m.above) || m.keeps) || m.turns) || m.settles) || m.within)

-- a text where the test holds
abbrev pub only_if : Bool → List ℕ → List ℕ
only_if test text = cond test text []

-- the letters of the marks, or -
abbrev pub marks_text : Marks → List ℕ
marks_text m =
    only_if m.below (codes "B")
    ++ (only_if m.above (codes "D")
    ++ (only_if m.keeps (codes "K")
    ++ (only_if m.turns (codes "T")
    ++ (only_if m.settles (codes "S")
    ++ (only_if m.within (codes "W")
    ++ only_if (unmarked m) (codes "-"))))))

-- number, name, depth, reach and marks, with a space between
abbrev pub line_text : Line → List ℕ
line_text l =
    decimal l.number
    ++ (codes " " ++ (name_of l.step ++ (codes " " ++ (decimal l.depth ++ (codes " " ++ (decimal l.reach ++ (codes " " ++ marks_text l.marks)))))))

-- the record at fault, where there is one
abbrev pub at_text : Option ℕ → List ℕ
at_text (Some i) = codes " record " ++ decimal i
at_text None = []

-- the sheet of what is admitted, or the number of the refusal and the record at fault
abbrev pub verdict_text : Verdict → List ℕ
verdict_text (Admitted s) =
    codes "admitted planes "
    ++ (decimal s.planes ++ (codes " reach " ++ (decimal s.reach ++ (codes " marks " ++ marks_text s.marks))))
verdict_text (Refused r) = codes "refused " ++ (decimal r.number ++ at_text r.at)

-- each line with its end
abbrev pub lines_text : List Line → List ℕ
lines_text [] = []
lines_text (l ∷ ls) = (line_text l ++ (10 ∷ [])) ++ lines_text ls

-- the lines, and the verdict below them
abbrev pub listing_text : List Line → Verdict → List ℕ
listing_text ls v = lines_text ls ++ verdict_text v
