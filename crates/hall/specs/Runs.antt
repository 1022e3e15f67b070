-- One frame put through one recipe on a new cell.
use Rattle.std.specs.Prelude.{ℕ, List, [], ◌∷◌, Ok, Err, Result}
use Rattle.level.specs.Kind.{Kind}
use Rattle.rule.specs.Criterion.{Criterion}
use Rattle.recipe.specs.declared.entry.Sheet.{Sheet}
use Rattle.recipe.specs.Plans.{Answer, given, refused, next}
use Rattle.cell.specs.declared.fault.CellFault.{CellFault}
use Rattle.cell.specs.Refusals.{cell_refusal}
use Rattle.cell.specs.Histories.{Admit, Lay, Steps, Take, History, event, Setting, defined}

module _ (K : Kind) (C : Criterion) (s : Setting) (bytes : List ℕ) (f : List K.Level) where
  -- the recipe is admitted
  abbrev pub admitted : Sheet → History K.Level
  admitted sheet = event (Admit bytes) (given sheet) ∷ []

  -- then the frame is laid
  abbrev pub laid : Sheet → History K.Level
  laid sheet = event (Lay f) (given tt) ∷ admitted sheet

  -- then 64 records are asked for, so all are done
  abbrev pub stepped : Sheet → Answer (ℕ × ℕ) → History K.Level
  stepped sheet answer = event (Steps 64) answer ∷ laid sheet

  -- then the image is taken
  abbrev pub taking : ℕ → Sheet → Answer (List K.Level)
  taking n sheet = defined K C s (stepped sheet (defined K C s (laid sheet) (Steps 64))) (Take n)

  -- the calls after the admission
  abbrev pub laying : ℕ → Sheet → Answer (List K.Level)
  laying n sheet = next (defined K C s (admitted sheet) (Lay f)) (λ _. taking n sheet)

  -- the image, or the first refusal
  abbrev pub one_run : ℕ → Answer (List K.Level)
  one_run n = next (defined K C s [] (Admit bytes)) (laying n)

-- what is answered, with the levels that the output then holds
abbrev pub run_answer : {L : Type 0} → Result (Unit {0}) CellFault → List L → Answer (List L)
run_answer (Ok u) out = given out
run_answer (Err e) out = refused (cell_refusal e)
