-- Lists of ranks, and the five numbers that a selecting rule sees of such a list.
use Rattle.std.specs.Prelude.{◌≡◌, ℕ, ◌+◌, ◌-◌, ◌*◌, ◌≤◌, min, max, List, [], ◌∷◌, map, length}
use Rattle.std.specs.List.{AllByRecursion as Every}

-- the ranks of a window: 1 to 25 of them, each at most t
pub record Ranks (t : ℕ) (rs : List ℕ) : Type 0 where
  pub some : 1 ≤ length rs
  pub few : length rs ≤ 25
  pub below : Every (λ r. r ≤ t) rs

-- the sum of some ranks
abbrev pub sum : List ℕ → ℕ
sum [] = 0
sum (r ∷ rs) = r + sum rs

-- the sum of their squares
abbrev pub squares : List ℕ → ℕ
squares [] = 0
squares (r ∷ rs) = r * r + squares rs

-- the lowest of the rank a and the ranks rs
abbrev pub lowest_with : ℕ → List ℕ → ℕ
lowest_with a [] = a
lowest_with a (r ∷ rs) = min r (lowest_with a rs)

-- the highest of the rank a and the ranks rs
abbrev pub highest_with : ℕ → List ℕ → ℕ
highest_with a [] = a
highest_with a (r ∷ rs) = max r (highest_with a rs)

-- the lowest of some ranks
abbrev pub lowest : List ℕ → ℕ
lowest [] = 0
lowest (r ∷ rs) = lowest_with r rs

-- the highest of some ranks
abbrev pub highest : List ℕ → ℕ
highest [] = 0
highest (r ∷ rs) = highest_with r rs

-- all that a selecting rule sees of a window
pub record Numbers : Type 0 where
  pub count : ℕ
  pub sum : ℕ
  pub squares : ℕ
  pub lowest : ℕ
  pub highest : ℕ

-- the numbers of some ranks
abbrev pub numbers : List ℕ → Numbers
numbers rs = record {
  count = length rs;
  sum = sum rs;
  squares = squares rs;
  lowest = lowest rs;
  highest = highest rs;
}

-- some ranks, each at most 65535, have these numbers
abbrev pub Made : Numbers → Type 0
Made w = ∥ ((rs : List ℕ) × Ranks 65535 rs × (w ≡ numbers rs)) ∥₁

-- the numbers of one rank
abbrev pub single : ℕ → Numbers
single r = record { count = 1; sum = r; squares = r * r; lowest = r; highest = r }

-- the numbers once the rank r is in the window too
abbrev pub more : Numbers → ℕ → Numbers
more w r = record {
  count = w.count + 1;
  sum = w.sum + r;
  squares = w.squares + r * r;
  lowest = min w.lowest r;
  highest = max w.highest r;
}

-- every rank r becomes t - r
abbrev pub flipped : ℕ → List ℕ → List ℕ
flipped t rs = map (λ r. t - r) rs

-- what the numbers of a window become when every rank r becomes t - r
abbrev pub flipped_numbers : ℕ → Numbers → Numbers
flipped_numbers t w = record {
  count = w.count;
  sum = w.count * t - w.sum;
  squares = w.count * (t * t) + w.squares - 2 * (t * w.sum);
  lowest = t - w.highest;
  highest = t - w.lowest;
}
