use Rattle.std.proofs.Common.{◌≡◌}
use Rattle.recipe.specs.Mirrors.{exchanged}
use Rattle.recipe.proofs.mirror.mirror.Given as goal

abbrev pub invariant-loop-i : goal.invariant-loop-i
invariant-loop-i l = l.bytes ≡ exchanged l.i l.initial.bytes
