use Rattle.std.proofs.Common.{◌≡◌, ◌≤◌, max}
use Rattle.recipe.specs.Elements.{gather, offsets, distance}
use Rattle.recipe.proofs.element.Element.radius.Given as goal

abbrev pub invariant-loop-b : goal.invariant-loop-b
invariant-loop-b l = (l.radius ≡ gather max 0 (offsets l.self) distance l.b) × (l.radius ≤ 2)
