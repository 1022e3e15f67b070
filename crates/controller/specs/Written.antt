-- A sheet as bytes.
use Rattle.std.specs.Prelude.{ℕ, ◌+◌, Bool, cond, List, [], ◌∷◌}
use Rattle.recipe.specs.declared.entry.Marks.{Marks}
use Rattle.recipe.specs.declared.entry.Sheet.{Sheet}

abbrev pub mark_bit : Bool → ℕ → ℕ
mark_bit mark value = cond mark value 0

-- B D K T S W, from the lowest bit up
abbrev pub mark_bits : Marks → ℕ
mark_bits m =
    mark_bit m.below 1 + mark_bit m.above 2 + mark_bit m.keeps 4 + mark_bit m.turns 8 + mark_bit m.settles 16
    + mark_bit m.within 32

-- planes, reach, marks
abbrev pub sheet_bytes : Sheet → List ℕ
sheet_bytes s = s.planes ∷ s.reach ∷ mark_bits s.marks ∷ []
