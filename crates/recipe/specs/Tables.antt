-- What the code's table of entries stands for.
use Rattle.std.specs.Prelude.{ℕ, zero, suc, false, List, [], ◌∷◌, slice_index_or}
use Rattle.recipe.specs.declared.entry.Entry.{Entry}
use Rattle.recipe.specs.declared.entry.Chain.TheVariants.{OfAny}
use Rattle.recipe.specs.declared.table.Table.{Table}
use Rattle.recipe.specs.Plans.{Progress}

-- what stands for an entry past the table's end
abbrev pub no_entry : Entry
no_entry = record { reach = 0; below = false; above = false; keeps = false; turns = false; within = false; chain = OfAny }

-- the first d entries, the last one first
abbrev pub top_down : List Entry → ℕ → List Entry
top_down es zero = []
top_down es (suc d) = slice_index_or es d no_entry ∷ top_down es d

abbrev pub progress : Table → Progress
progress t = record { entries = top_down t.entries t.depth; planes = t.planes }
