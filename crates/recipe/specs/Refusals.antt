-- What each fault tells: the refusal's number, its layer, and the record where a single one is at fault.
use Rattle.std.specs.Prelude.{ℕ, Some, None, Option}
use Rattle.recipe.specs.declared.fault.Layer.{Layer}
use Rattle.recipe.specs.declared.fault.Layer.TheVariants.{Record, Plan}
use Rattle.recipe.specs.declared.fault.Refusal.{Refusal}
use Rattle.recipe.specs.declared.fault.RecordFault.{RecordFault}
use Rattle.recipe.specs.declared.fault.RecordFault.TheVariants.{UnknownKind, NotZero, BadElement}
use Rattle.recipe.specs.declared.fault.PlanFault.{PlanFault}
use Rattle.recipe.specs.declared.fault.PlanFault.TheVariants.{BadLength, Unreadable, Unranked, TooFewPlanes, FifthPlane, PlanesLeft}

abbrev pub refusal : ℕ → Layer → Option ℕ → Refusal
refusal n l i = record { number = n; layer = l; at = i }

abbrev pub record_refusal : RecordFault → Refusal
record_refusal (UnknownKind i) = refusal 12 Record (Some i)
record_refusal (NotZero i) = refusal 13 Record (Some i)
record_refusal (BadElement i) = refusal 14 Record (Some i)

abbrev pub plan_refusal : PlanFault → Refusal
plan_refusal BadLength = refusal 11 Plan None
plan_refusal (Unreadable f) = record_refusal f
plan_refusal (Unranked i) = refusal 15 Plan (Some i)
plan_refusal (TooFewPlanes i) = refusal 16 Plan (Some i)
plan_refusal (FifthPlane i) = refusal 17 Plan (Some i)
plan_refusal PlanesLeft = refusal 18 Plan None
