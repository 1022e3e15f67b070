-- What steps do to a stack: of planes, of sheet entries, of anything that can be begun, changed and merged.
use Rattle.std.specs.Prelude.{List, [], ◌∷◌}
use Rattle.recipe.specs.declared.step.Step.{Step}
use Rattle.recipe.specs.Steps.{Change, Merge, Form, start, change, merge, form}

pub record Machine (A : Type 0) : Type 0 where
  pub begin : A
  pub one : Change → A → A
  -- of the lower and the upper of two planes
  pub two : Merge → A → A → A

-- one step, the top of the stack first; a stack too low for it, as in no recipe that is admitted, stays
abbrev pub by_form : {A : Type 0} → Machine A → Form → List A → List A
by_form M start st = M.begin ∷ st
by_form M (change c) [] = []
by_form M (change c) (a ∷ st) = M.one c a ∷ st
by_form M (merge m) [] = []
by_form M (merge m) (a ∷ []) = a ∷ []
by_form M (merge m) (a ∷ b ∷ st) = M.two m b a ∷ st

abbrev pub stepped : {A : Type 0} → Machine A → Step → List A → List A
stepped M x st = by_form M (form x) st

-- the stack that steps leave of a stack
abbrev pub run : {A : Type 0} → Machine A → List Step → List A → List A
run M [] st = st
run M (x ∷ xs) st = run M xs (stepped M x st)
