-- What a selecting rule is: its answers from the five numbers of windows, and the laws that they keep.
use Rattle.std.specs.Prelude.{◌≡◌, ℕ, ◌*◌, ◌≤◌, Bool, ◌||◌, T, List}
use Rattle.rule.specs.Ranks.{Numbers, Ranks, Made, numbers, flipped, flipped_numbers}
use Rattle.rule.specs.Fractions.{Fraction, SumTo}

-- A selecting rule with its laws. They are asked for the numbers of every list of 1 to 25 ranks; at numbers that no
-- ranks have, its answers are free.
pub record Criterion : Type 0 where
  -- the first window is at least as good as the second
  pub prefers : Numbers → Numbers → Bool
  -- the value of a window
  pub value : Numbers → Fraction
  -- any two windows compare
  pub total : (ps qs : List ℕ) → Ranks 65535 ps → Ranks 65535 qs →
      T (prefers (numbers ps) (numbers qs) || prefers (numbers qs) (numbers ps))
  -- the preference passes along from first to second to third
  pub transitive : (ps qs rs : List ℕ) → Ranks 65535 ps → Ranks 65535 qs → Ranks 65535 rs →
      T (prefers (numbers ps) (numbers qs)) → T (prefers (numbers qs) (numbers rs)) → T (prefers (numbers ps) (numbers rs))
  -- the denominator of a value is from 1 to 1000
  pub positive : (rs : List ℕ) → Ranks 65535 rs → 1 ≤ (value (numbers rs)).den
  pub small : (rs : List ℕ) → Ranks 65535 rs → (value (numbers rs)).den ≤ 1000
  -- the value lies between the lowest and the highest rank
  pub not_below : (rs : List ℕ) → Ranks 65535 rs →
      (numbers rs).lowest * (value (numbers rs)).den ≤ (value (numbers rs)).num
  pub not_above : (rs : List ℕ) → Ranks 65535 rs →
      (value (numbers rs)).num ≤ (numbers rs).highest * (value (numbers rs)).den
  -- when every rank r becomes t - r, preferences remain
  pub fair : (t : ℕ) → t ≤ 65535 → (ps qs : List ℕ) → Ranks t ps → Ranks t qs →
      prefers (numbers (flipped t ps)) (numbers (flipped t qs)) ≡ prefers (numbers ps) (numbers qs)
  -- and a value q becomes t - q
  pub fair_value : (t : ℕ) → t ≤ 65535 → (rs : List ℕ) → Ranks t rs →
      SumTo t (value (numbers (flipped t rs))) (value (numbers rs))

-- The same laws of windows, of which only the five numbers are known. They follow from those of the lists.
pub record Laws (C : Criterion) : Type 0 where
  pub total : (v w : Numbers) → Made v → Made w → T (C.prefers v w || C.prefers w v)
  pub transitive : (u v w : Numbers) → Made u → Made v → Made w → T (C.prefers u v) → T (C.prefers v w) → T (C.prefers u w)
  pub positive : (w : Numbers) → Made w → 1 ≤ (C.value w).den
  pub small : (w : Numbers) → Made w → (C.value w).den ≤ 1000
  pub not_below : (w : Numbers) → Made w → w.lowest * (C.value w).den ≤ (C.value w).num
  pub not_above : (w : Numbers) → Made w → (C.value w).num ≤ w.highest * (C.value w).den
  -- the window in which every rank r has become t - r is a window again
  pub flips : (t : ℕ) → t ≤ 65535 → (w : Numbers) → Made w → w.highest ≤ t → Made (flipped_numbers t w)
  pub fair : (t : ℕ) → t ≤ 65535 → (v w : Numbers) → Made v → Made w → v.highest ≤ t → w.highest ≤ t →
      C.prefers (flipped_numbers t v) (flipped_numbers t w) ≡ C.prefers v w
  pub fair_value : (t : ℕ) → t ≤ 65535 → (w : Numbers) → Made w → w.highest ≤ t →
      SumTo t (C.value (flipped_numbers t w)) (C.value w)
