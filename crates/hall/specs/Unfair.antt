-- A rule that cannot be: it prefers the window with the larger lowest rank.
use Rattle.std.specs.Prelude.{◌≡◌, nat_le}
use Rattle.rule.specs.Ranks.{Numbers}
use Rattle.rule.specs.Criterion.{Criterion}

-- the larger lowest rank is better
abbrev pub PrefersHigh : Criterion → Type 0
PrefersHigh C = (v w : Numbers) → C.prefers v w ≡ nat_le w.lowest v.lowest
