-- What one run answers: a recipe put to a new cell, a frame laid, every record done, the image taken.
use Rattle.std.specs.Prelude.{◌≡◌, ℕ, ◌+◌, ◌*◌, ◌<◌, ◌≤◌, not, List, [], map, length, Ok, Err, Result, ◌==◌, slice_index_or}
use Rattle.level.specs.Kind.{Kind}
use Rattle.rule.specs.Criterion.{Criterion}
use Rattle.recipe.specs.declared.entry.Sheet.{Sheet}
use Rattle.recipe.specs.Plans.{Answer, given, refused, unless, next, checked}
use Rattle.cell.specs.declared.fault.CellFault.{CellFault}
use Rattle.cell.specs.Refusals.{of_cell, cell_refusal}
use Rattle.cell.specs.Histories.{Admit, Setting, pixels, image_of, defined}

-- what a new cell answers to the recipe, if it refuses; then 20 for the frame or for the output; else the recipe's image of
-- the frame
abbrev pub run_answer : (K : Kind) → Criterion → Setting → List ℕ → List K.Level → ℕ → Answer (List K.Level)
run_answer K C s recipe frame out =
    next (defined K C s [] (Admit recipe))
    (λ sheet.
    unless (not (length frame == pixels s)) (of_cell 20)
    (unless (not (out == pixels s)) (of_cell 20) (given (image_of K C s recipe frame))))

-- an answer is told: an image by 0, in the output; a refusal by its number, which is never 0, and the output is as it was
abbrev pub Told : {L X : Type 0} → (X → L) → Answer (List L) → List X → List X → ℕ → Type 0
Told m (given image) before after number = (number ≡ 0) × (map m after ≡ image)
Told m (refused r) before after number = (number ≡ r.number) × (0 < number) × (after ≡ before)

-- a block is as it was, from some level on
abbrev pub SameFrom : {X : Type 0} → ℕ → List X → List X → Type 0
SameFrom {X} n before after = (k : ℕ) (d : X) → n ≤ k → slice_index_or after k d ≡ slice_index_or before k d

-- the levels of the block that a recipe uses: the frame's plane, its own, and the scratch plane
abbrev pub used : Setting → Answer Sheet → ℕ
used s (given sheet) = (sheet.planes + 2) * pixels s
used s (refused r) = 0

-- an image leaves the block as it was behind the levels used; a refusal leaves it whole
abbrev pub Spares : {L X : Type 0} → ℕ → Answer (List L) → List X → List X → Type 0
Spares n (given image) before after = SameFrom n before after
Spares n (refused r) before after = after ≡ before

-- a call on these arguments has run the recipe: number is what it returns, m gives a pixel's meaning
pub record Ran (K : Kind) {X : Type 0} (m : X → K.Level) (C : Criterion) (s : Setting) (recipe : List ℕ) (frame block block' out out' : List X) (number : ℕ) : Type 0 where
  pub told : Told m (run_answer K C s recipe (map m frame) (length out)) out out' number
  pub spared : Spares (used s (checked K.ranked recipe)) (run_answer K C s recipe (map m frame) (length out)) block block'

-- the answer that the code has, with the levels that the output then means, and its number
abbrev pub image_answer : {L : Type 0} → Result (Unit {0}) CellFault → List L → Answer (List L)
image_answer (Ok u) out = given out
image_answer (Err e) out = refused (cell_refusal e)

abbrev pub number_of : Result (Unit {0}) CellFault → ℕ
number_of (Ok u) = 0
number_of (Err e) = (cell_refusal e).number
