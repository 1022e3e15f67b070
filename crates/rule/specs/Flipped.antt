-- Lemmas, for the proofs of every rule: what becomes of a window's numbers when every rank r becomes t - r.
use Rattle.std.specs.Prelude.{◌≡◌, ℕ, suc, ◌+◌, ◌-◌, ◌*◌, ◌≤◌, List, [], ◌∷◌, length, refl}
use Rattle.std.proofs.Common.{ap, arith}
use Rattle.std.specs.List.{AllByRecursion as Every}
use Rattle.rule.specs.Ranks.{Numbers, Ranks, sum, squares, lowest_with, highest_with, lowest, highest, numbers, flipped, flipped_numbers}
use Rattle.rule.specs.Windows.{highest_below}

-- the numbers v are those of the window w with every rank r become t - r; said with sums, which stop at no 0
pub record Flipped (t : ℕ) (w v : Numbers) : Type 0 where
  pub count : v.count ≡ w.count
  pub sum : v.sum + w.sum ≡ w.count * t
  pub squares : v.squares + 2 * (t * w.sum) ≡ w.count * (t * t) + w.squares
  pub lowest : v.lowest + w.highest ≡ t
  pub highest : v.highest + w.lowest ≡ t

-- (t - x)² = t² - 2 t x + x²
square_flipped : (t x : ℕ) → x ≤ t → (t - x) * (t - x) + 2 * (t * x) ≡ t * t + x * x
square_flipped t x h =
    let d = t - x in
    let e : t ≡ x + d = omega arith in
    omega (arith, ap (λ y. y * x) e, ap (λ y. y * t) e, ap (λ y. y * d) e)

length_flipped : (t : ℕ) (rs : List ℕ) → length (flipped t rs) ≡ length rs
length_flipped t [] = refl
length_flipped t (r ∷ rs) = ap suc (length_flipped t rs)

sum_flipped : (t : ℕ) (rs : List ℕ) → Every (λ r. r ≤ t) rs → sum (flipped t rs) + sum rs ≡ length rs * t
sum_flipped t [] _ = omega arith
sum_flipped t (r ∷ rs) h = let k = sum_flipped t rs h.1 in let l = h.0 in omega arith

squares_flipped : (t : ℕ) (rs : List ℕ) → Every (λ r. r ≤ t) rs → squares (flipped t rs) + 2 * (t * sum rs) ≡ length rs * (t * t) + squares rs
squares_flipped t [] _ = omega arith
squares_flipped t (r ∷ rs) h = let k = squares_flipped t rs h.1 in omega (arith, square_flipped t r h.0)

lowest_flipped : (t a : ℕ) (rs : List ℕ) → lowest_with (t - a) (flipped t rs) ≡ t - highest_with a rs
lowest_flipped t a [] = refl
lowest_flipped t a (r ∷ rs) = let k = lowest_flipped t a rs in omega arith

highest_flipped : (t a : ℕ) (rs : List ℕ) → highest_with (t - a) (flipped t rs) ≡ t - lowest_with a rs
highest_flipped t a [] = refl
highest_flipped t a (r ∷ rs) = let k = highest_flipped t a rs in omega arith

below_wider : (t u : ℕ) (rs : List ℕ) → t ≤ u → Every (λ r. r ≤ t) rs → Every (λ r. r ≤ u) rs
below_wider t u [] _ _ = tt
below_wider t u (r ∷ rs) h k = (let l = k.0 in omega arith, below_wider t u rs h k.1)

below_flipped : (t : ℕ) (rs : List ℕ) → Every (λ r. r ≤ t) (flipped t rs)
below_flipped t [] = tt
below_flipped t (r ∷ rs) = (omega arith, below_flipped t rs)

-- ranks that are at most t are at most a greater u
pub wider : (t u : ℕ) (rs : List ℕ) → t ≤ u → Ranks t rs → Ranks u rs
wider t u rs h w = record { some = w.some; few = w.few; below = below_wider t u rs h w.below }

-- the ranks t - r are ranks up to t again
pub ranks_flipped : (t : ℕ) (rs : List ℕ) → Ranks t rs → Ranks t (flipped t rs)
ranks_flipped t rs w = record {
  some = let e = length_flipped t rs in let h = w.some in omega arith;
  few = let e = length_flipped t rs in let h = w.few in omega arith;
  below = below_flipped t rs;
}

lowest_highest : (a : ℕ) (rs : List ℕ) → lowest_with a rs ≤ highest_with a rs
lowest_highest a [] = omega arith
lowest_highest a (r ∷ rs) = let k = lowest_highest a rs in omega arith

-- the five numbers of a flipped window
pub flips : (t : ℕ) (rs : List ℕ) → Ranks t rs → Flipped t (numbers rs) (numbers (flipped t rs))
flips t [] h = absurd (let k = h.some in let f : ⊥ = omega arith in f)
flips t (r ∷ rs) h =
    let top = highest_below t (r ∷ rs) h.below in
    let order = lowest_highest r rs in
    record {
      count = length_flipped t (r ∷ rs);
      sum = sum_flipped t (r ∷ rs) h.below;
      squares = squares_flipped t (r ∷ rs) h.below;
      lowest = omega (arith, lowest_flipped t r rs);
      highest = omega (arith, highest_flipped t r rs);
    }

-- the same as an equation
pub numbers_flipped : (t : ℕ) (rs : List ℕ) → Ranks t rs → numbers (flipped t rs) ≡ flipped_numbers t (numbers rs)
numbers_flipped t rs h =
    let f = flips t rs h in
    let s : sum (flipped t rs) ≡ length rs * t - sum rs = omega (arith, f.sum) in
    let q : squares (flipped t rs) ≡ length rs * (t * t) + squares rs - 2 * (t * sum rs) = omega (arith, f.squares) in
    let l : lowest (flipped t rs) ≡ t - highest rs = omega (arith, f.lowest) in
    let g : highest (flipped t rs) ≡ t - lowest rs = omega (arith, f.highest) in
    λ i. record { count = f.count i; sum = s i; squares = q i; lowest = l i; highest = g i }
