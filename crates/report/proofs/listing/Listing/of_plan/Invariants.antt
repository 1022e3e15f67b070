use Rattle.report.proofs.Walking.{Walked}
use Rattle.report.proofs.listing.Listing.of_plan.Given as goal

abbrev pub invariant-loop-i : goal.invariant-loop-i
invariant-loop-i l = Walked l.plan l.i l.table l.lines
