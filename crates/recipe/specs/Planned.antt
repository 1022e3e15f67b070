-- What a plan holds of the recipe that it was made from.
use Rattle.std.specs.Prelude.{◌≡◌, ℕ, ◌/◌, Bool, List, length, take, Ok, Err, Result}
use Rattle.recipe.specs.declared.fault.PlanFault.{PlanFault}
use Rattle.recipe.specs.declared.entry.Sheet.{Sheet}
use Rattle.recipe.specs.declared.plan.Plan.{Plan}
use Rattle.recipe.specs.Refusals.{plan_refusal}
use Rattle.recipe.specs.Plans.{Answer, given, refused, steps_of}

-- the plan checker's answer: a plan by its sheet, a fault by what it tells
abbrev pub sheet_answer : Result Plan PlanFault → Answer Sheet
sheet_answer (Ok plan) = given plan.sheet
sheet_answer (Err e) = refused (plan_refusal e)

-- the plan has the recipe's steps
pub record Planned (ranked : Bool) (bytes : List ℕ) (plan : Plan) : Type 0 where
  pub count : plan.count ≡ length bytes / 8
  pub steps : take plan.count plan.steps ≡ steps_of bytes
  pub levels : plan.ranked ≡ ranked
