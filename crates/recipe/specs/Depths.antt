-- How deep a stack is while steps run on it.
use Rattle.std.specs.Prelude.{ℕ, ◌+◌, ◌-◌, Bool, not, ◌&&◌, ◌||◌, List, [], ◌∷◌, ◌==◌, nat_le}
use Rattle.recipe.specs.declared.step.Step.{Step}
use Rattle.recipe.specs.Steps.{Form, start, change, merge, form, wants, reads_ranks}

-- the depth after a step
abbrev pub deeper : Form → ℕ → ℕ
deeper start d = d + 1
deeper (change c) d = d
deeper (merge m) d = d - 1

-- from a stack of d planes the steps find their ranks and planes, never make more than p planes, and leave one
abbrev pub runs : Bool → ℕ → ℕ → List Step → Bool
runs ranked p d [] = d == 1
runs ranked p d (x ∷ xs) =
    (not (reads_ranks (form x)) || ranked)
    && (nat_le (wants (form x)) d && (nat_le (deeper (form x) d) p && runs ranked p (deeper (form x) d) xs))
