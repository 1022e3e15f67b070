-- What the structs of the code stand for.
use Rattle.std.specs.Prelude.{◌≡◌, ℕ, List, [], Some, None, Option}
use Rattle.rule.specs.Ranks.{Numbers, numbers}
use Rattle.rule.specs.Choice.{Winner, nobody, somebody}
use Rattle.rule.specs.Fractions.{Fraction}
use Rattle.rule.specs.declared.window.Ratio.{Ratio}
use Rattle.rule.specs.declared.window.Window.{Window}

-- the numbers of a window
abbrev pub seen : Window → Numbers
seen w = record { count = w.count; sum = w.sum; squares = w.squares; lowest = w.lowest; highest = w.highest }

-- the ranks gathered so far are rs; before the first there is no window
abbrev pub Gathered : Option Window → List ℕ → Type 0
Gathered None rs = rs ≡ []
Gathered (Some w) rs = seen w ≡ numbers rs

-- the fraction that a ratio is
abbrev pub fraction : Ratio → Fraction
fraction q = record { num = q.num; den = q.den }

-- the winner that a best window so far is
abbrev pub standing : Option Window → Winner
standing None = nobody
standing (Some w) = somebody (seen w)
