-- The choice at one place: which of the candidate windows wins, and the rank that its value is rounded to.
use Rattle.std.specs.Prelude.{◌≡◌, ℕ, ◌-◌, ◌≤◌, Bool, cond, not, ◌&&◌, ◌||◌, T, ◌⊎◌, List, [], ◌∷◌, map}
use Rattle.std.specs.List.{AllByRecursion as Every}
use Rattle.rule.specs.Ranks.{Numbers, Ranks, Made, numbers, flipped, flipped_numbers}
use Rattle.rule.specs.Fractions.{Fraction, Equal, AtMost, less, away, rounded, Rounded}
use Rattle.rule.specs.Criterion.{Criterion}
use Rattle.level.specs.declared.side.Side.{Side}
use Rattle.level.specs.Sides.{opposite}
use Rattle.level.specs.declared.side.Side.TheVariants.{Low, High}

-- Which window wins, as computed.

-- a is lower than b (low), or higher (high)
abbrev pub outer : Side → Fraction → Fraction → Bool
outer Low a b = less a b
outer High a b = less b a

-- at a place of rank x the window v wins over w: it is better by the rule; or equally good, and its value is nearer to x;
-- or equally near too, and its value is lower (low) or higher (high)
abbrev pub wins : Criterion → Side → ℕ → Numbers → Numbers → Bool
wins C side x v w =
    let a = C.value v in
    let b = C.value w in
    C.prefers v w
    && (not (C.prefers w v)
    || (less (away x a) (away x b) || (not (less (away x b) (away x a)) && outer side a b)))

-- the best window so far, if there was one
pub data Winner : Type 0 where
  nobody : Winner
  somebody : Numbers → Winner

-- the better of two, the first of equals
abbrev pub winner : Criterion → Side → ℕ → Winner → Winner → Winner
winner C side x nobody b = b
winner C side x (somebody v) nobody = somebody v
winner C side x (somebody v) (somebody w) = somebody (cond (wins C side x w v) w v)

-- the best once the candidates ws have come too, in their order
abbrev pub best_after : Criterion → Side → ℕ → Winner → List Numbers → Winner
best_after C side x b [] = b
best_after C side x b (w ∷ ws) = best_after C side x (winner C side x b (somebody w)) ws

-- the best of the candidates
abbrev pub best : Criterion → Side → ℕ → List Numbers → Winner
best C side x ws = best_after C side x nobody ws

-- the rank that a place of rank x gets: the value of the best window, rounded; with no window it keeps its rank
abbrev pub settled : Criterion → Side → ℕ → Winner → ℕ
settled C side x nobody = x
settled C side x (somebody w) = rounded side (C.value w)

-- the rank that a place of rank x gets by the choice among the candidates ws
abbrev pub selection : Criterion → Side → ℕ → List Numbers → ℕ
selection C side x ws = settled C side x (best C side x ws)

-- What that means, as relations.

-- y is one of ys
abbrev pub In : {X : Type 0} → X → List X → Type 0
In y [] = ⊥
In y (z ∷ zs) = (y ≡ z) ⊎ In y zs

-- a is at least as near to x as b
abbrev pub Near : ℕ → Fraction → Fraction → Type 0
Near x a b = AtMost (away x a) (away x b)

-- a is at most b (low), or at least b (high)
abbrev pub Sided : Side → Fraction → Fraction → Type 0
Sided Low a b = AtMost a b
Sided High a b = AtMost b a

-- at a place of rank x the window v is ahead of w, or level with it
pub record Ahead (C : Criterion) (side : Side) (x : ℕ) (v w : Numbers) : Type 0 where
  -- v is at least as good
  pub good : T (C.prefers v w)
  -- where they are equally good, the value of v is at least as near
  pub near : T (C.prefers w v) → Near x (C.value v) (C.value w)
  -- where they are equally good and equally near, it is as low, or as high
  pub sided : T (C.prefers w v) → Near x (C.value w) (C.value v) → Sided side (C.value v) (C.value w)

-- w is a best one of the candidates ws: ahead of each of them, or level with it
pub record Best (C : Criterion) (side : Side) (x : ℕ) (ws : List Numbers) (w : Numbers) : Type 0 where
  pub among : In w ws
  pub ahead : Every (Ahead C side x w) ws

-- the window's ranks lie from low to high
pub record Lies (low high : ℕ) (w : Numbers) : Type 0 where
  pub made : Made w
  pub above : low ≤ w.lowest
  pub below : w.highest ≤ high

-- The choice by any rule.
pub record Choice (C : Criterion) : Type 0 where
  -- to win is to be ahead without being level
  pub won : (side : Side) (x : ℕ) (v w : Numbers) → Made v → Made w → T (wins C side x v w) → Ahead C side x v w × (Ahead C side x w v → ⊥)
  pub to_win : (side : Side) (x : ℕ) (v w : Numbers) → Made v → Made w → Ahead C side x v w → (Ahead C side x w v → ⊥) → T (wins C side x v w)
  -- the rounded value of a window is the nearest rank, and no other is
  pub nearest : (side : Side) (w : Numbers) → Made w → Rounded side (C.value w) (rounded side (C.value w))
  pub nearest_one : (side : Side) (w : Numbers) → Made w → (k : ℕ) → Rounded side (C.value w) k → k ≡ rounded side (C.value w)
  -- with no candidate the rank remains
  pub none : (side : Side) (x : ℕ) → selection C side x [] ≡ x
  -- where there is a candidate, there is a best one
  pub exists : (side : Side) (x : ℕ) (w : Numbers) (ws : List Numbers) → Every Made (w ∷ ws) → (v : Numbers) × Best C side x (w ∷ ws) v
  -- best ones have one value
  pub one_value : (side : Side) (x : ℕ) (ws : List Numbers) (v w : Numbers) → Best C side x ws v → Best C side x ws w → Equal (C.value v) (C.value w)
  -- the rank that is selected is the rounded value of every best one
  pub selected : (side : Side) (x : ℕ) (ws : List Numbers) → Every Made ws → (w : Numbers) → Best C side x ws w → selection C side x ws ≡ rounded side (C.value w)
  -- it lies between the lowest and the highest rank of every best one
  pub between : (side : Side) (x : ℕ) (ws : List Numbers) → Every Made ws → (w : Numbers) → Best C side x ws w →
      (w.lowest ≤ selection C side x ws) × (selection C side x ws ≤ w.highest)
  -- so it keeps within bounds that the place and all candidates keep
  pub within : (side : Side) (low high x : ℕ) → low ≤ x → x ≤ high → (ws : List Numbers) → Every (Lies low high) ws →
      (low ≤ selection C side x ws) × (selection C side x ws ≤ high)
  -- when every rank r becomes t - r and low and high are exchanged, the best ones remain the best
  pub flips_best : (t : ℕ) → t ≤ 65535 → (side : Side) (x : ℕ) → x ≤ t → (cs : List (List ℕ)) → Every (Ranks t) cs → (w : Numbers) →
      Best C side x (map numbers cs) w → Best C (opposite side) (t - x) (map numbers (map (flipped t) cs)) (flipped_numbers t w)
  -- and the rank k that is selected becomes t - k
  pub flips : (t : ℕ) → t ≤ 65535 → (side : Side) (x : ℕ) → x ≤ t → (cs : List (List ℕ)) → Every (Ranks t) cs →
      selection C (opposite side) (t - x) (map numbers (map (flipped t) cs)) ≡ t - selection C side x (map numbers cs)
