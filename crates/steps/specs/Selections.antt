-- Selecting: each place takes the value of the best window around it.
use Rattle.std.specs.Prelude.{ℕ, ◌&&◌, List, [], ◌∷◌, ◌++◌}
use Rattle.level.specs.declared.side.Side.{Side}
use Rattle.level.specs.Kind.{Kind}
use Rattle.rule.specs.Ranks.{Numbers, numbers}
use Rattle.rule.specs.Criterion.{Criterion}
use Rattle.rule.specs.Choice.{selection}
use Rattle.recipe.specs.Elements.{Offsets, turned, gather}
use Rattle.steps.specs.Images.{Size, Place, Image, moved, lands}

module _ (K : Kind) (s : Size) where
  -- the ranks of the levels that the element leads to inside
  abbrev pub ranks_seen : Offsets → Image K → Place → List ℕ
  ranks_seen E f p = gather ◌++◌ [] (λ b. E b && lands s p b) (λ b. K.rank (f (moved p b)) ∷ []) 25

  -- the candidates of a place: the windows, by the element turned, of the centres that the element leads to inside
  abbrev pub candidates : Offsets → Image K → Place → List Numbers
  candidates E f p = gather ◌++◌ [] (λ b. E b && lands s p b) (λ b. numbers (ranks_seen (turned E) f (moved p b)) ∷ []) 25

  -- each place becomes the level at the rank that the rule selects; where there is no candidate, that is its own
  abbrev pub selected : Criterion → Side → Offsets → Image K → Image K
  selected C d E f p = K.at (selection C d (K.rank (f p)) (candidates E f p))
