-- What the images of runs keep: the cell's promises, said of one call.
use Rattle.std.specs.Prelude.{◌≡◌, ℕ, List, map}
use Rattle.level.specs.Kind.{Kind}
use Rattle.rule.specs.Criterion.{Criterion}
use Rattle.recipe.specs.declared.entry.Sheet.{Sheet}
use Rattle.recipe.specs.Mirrors.{mirror}
use Rattle.recipe.specs.Plans.{given, mapped, checked, steps_of}
use Rattle.steps.specs.Images.{Place, Inside}
use Rattle.steps.specs.Recipes.{image}
use Rattle.cell.specs.Rasters.{picture}
use Rattle.cell.specs.Histories.{Setting, size}
use Rattle.cell.specs.Laws.{MarksKept, AgreeNear}
use Rattle.controller.specs.Runs.{run_answer}

module _ (K : Kind) (C : Criterion) where
  -- the recipe is admitted with a sheet, and what a run gave keeps every mark on it
  pub record MarkedRun (s : Setting) (recipe : List ℕ) (frame out : List K.Level) : Type 0 where
    pub sheet : Sheet
    pub admitted : checked K.ranked recipe ≡ given sheet
    pub kept : MarksKept K (size s) sheet (image K C (size s) (steps_of recipe)) (picture K (size s) frame) (picture K (size s) out)

  abbrev pub RunsMarked : Setting → Type 0
  RunsMarked s =
      (recipe : List ℕ) (frame out : List K.Level) (n : ℕ) → run_answer K C s recipe frame n ≡ given out → MarkedRun s recipe frame out

  -- the mirrored recipe, on the negative, gives the negative or the same refusal
  abbrev pub RunsMirrored : Setting → Type 0
  RunsMirrored s =
      (recipe : List ℕ) (frame : List K.Level) (n : ℕ) →
      run_answer K C s (mirror recipe) (map K.negation frame) n ≡ mapped (map K.negation) (run_answer K C s recipe frame n)

  -- two runs of one recipe, on frames of one size, give the same level at a place where the frames agree within the sheet's reach
  abbrev pub RunsReach : Setting → Setting → Type 0
  RunsReach s s' =
      size s ≡ size s' →
      (recipe : List ℕ) (frame frame' out out' : List K.Level) (n n' : ℕ) →
      run_answer K C s recipe frame n ≡ given out → run_answer K C s' recipe frame' n' ≡ given out' →
      (sheet : Sheet) → checked K.ranked recipe ≡ given sheet →
      (p : Place) → Inside (size s) p →
      AgreeNear K (size s) sheet.reach p (picture K (size s) frame) (picture K (size s') frame') →
      picture K (size s) out p ≡ picture K (size s') out' p
