-- Answers as the functions return them: a fault by what it tells.
use Rattle.std.specs.Prelude.{Ok, Err, Result}
use Rattle.recipe.specs.declared.step.Step.{Step}
use Rattle.recipe.specs.declared.fault.RecordFault.{RecordFault}
use Rattle.recipe.specs.declared.fault.PlanFault.{PlanFault}
use Rattle.recipe.specs.Refusals.{record_refusal, plan_refusal}
use Rattle.recipe.specs.Plans.{Answer, given, refused}

-- of the record reader
abbrev pub step_answer : Result Step RecordFault → Answer Step
step_answer (Ok x) = given x
step_answer (Err e) = refused (record_refusal e)

-- of a function that leaves its result, a, behind
abbrev pub left_answer : {A : Type 0} → A → Result (Unit {0}) PlanFault → Answer A
left_answer a (Ok u) = given a
left_answer a (Err e) = refused (plan_refusal e)
