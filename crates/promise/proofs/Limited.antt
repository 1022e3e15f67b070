-- The rows on which the marks left out are false, by computing.
use Rattle.std.proofs.Common.{◌≡◌, ℕ, zero, suc, ◌<◌, ◌≤◌, List, [], ◌∷◌, get_or, ap, arith}
use Rattle.level.specs.Delivered.{greys, grey}
use Rattle.recipe.specs.Elements.{gather}
use Rattle.steps.specs.Images.{Place, Inside, Image}
use Rattle.promise.specs.Limits.{row_of, Limits}

-- a row of greys as a frame
abbrev row : List ℕ → Image greys
row xs p = grey (get_or xs p.column 0)

-- its place at a column
abbrev place : ℕ → Place
place k = record { column = k; row = 0 }

inside : (n k : ℕ) → k < n → Inside (row_of n) (place k)
inside n k h = (h, omega arith)

abbrev lower : List ℕ
lower = 0 ∷ 1 ∷ 1 ∷ []

abbrev upper : List ℕ
upper = 0 ∷ 1 ∷ 2 ∷ []

ordered : (k : ℕ) → get_or lower k 0 ≤ get_or upper k 0
ordered zero = omega arith
ordered (suc zero) = omega arith
ordered (suc (suc zero)) = omega arith
ordered (suc (suc (suc k))) = omega arith

pub limits : Limits
unfolding gather
limits = record {
  open_off_centre = λ h. let n : 9 ≤ 0 = (h (row (9 ∷ [])) (place 0) (inside 1 0 (omega arith))).0 in omega arith;
  open_by_two = λ h.
      let n : 0 ≡ 1 = ap (λ a. a.number) (h (row (1 ∷ 0 ∷ 1 ∷ [])) (place 0) (inside 3 0 (omega arith))) in omega arith;
  dilate_below = λ h. let n : 5 ≤ 0 = h (row (0 ∷ 5 ∷ [])) (place 0) (inside 2 0 (omega arith)) in omega arith;
  select_keeps = λ h.
      let n : 1 ≤ 0 = h (row lower) (row upper) (λ p i. omega (arith, ordered p.column)) (place 1) (inside 3 1 (omega arith)) in omega arith;
}
