-- The lines of a listing.
use Rattle.std.specs.Prelude.{ℕ, zero, suc, ◌+◌, List, [], ◌∷◌, length, take, slice_index_or}
use Rattle.recipe.specs.declared.entry.Entry.{Entry}
use Rattle.recipe.specs.declared.step.Step.{Step}
use Rattle.recipe.specs.declared.step.Step.TheVariants.{Frame}
use Rattle.recipe.specs.Machines.{run}
use Rattle.recipe.specs.Sheets.{on_entries, top, marks_of}
use Rattle.report.specs.declared.line.Line.{Line}

-- the line of record i, a step x after which the stack is d deep and has the entry e on top
abbrev pub line_of : ℕ → Step → ℕ → Entry → Line
line_of i x d e = record { number = i; step = x; depth = d; reach = e.reach; marks = marks_of e }

-- the line of record i of a recipe, with the stack that the steps up to it leave
abbrev pub line_at : List Step → ℕ → Line
line_at xs i = let st = run on_entries (take (i + 1) xs) [] in line_of i (slice_index_or xs i Frame) (length st) (top st)

-- the lines of n records from record i on
abbrev pub lines_from : List Step → ℕ → ℕ → List Line
lines_from xs zero i = []
lines_from xs (suc n) i = line_at xs i ∷ lines_from xs n (i + 1)

-- one line a record
abbrev pub lines : List Step → List Line
lines xs = lines_from xs (length xs) 0
