use Rattle.std.proofs.Common.{◌≡◌, ◌-◌, ◌/◌, length, take}
use Rattle.recipe.specs.Plans.{walked, nothing, steps_from}
use Rattle.recipe.specs.Tables.{progress}
use Rattle.recipe.proofs.plan.Plan.check.Given as goal

abbrev pub invariant-loop-i : goal.invariant-loop-i
invariant-loop-i l =
    (walked l.ranked l.bytes (length l.bytes / 8) 0 nothing ≡ walked l.ranked l.bytes (length l.bytes / 8 - l.i) l.i (progress l.table))
    × (take l.i l.steps ≡ steps_from l.bytes l.i 0)
    × (length l.steps ≡ 64)
