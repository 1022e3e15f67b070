-- Fractions num / den of numbers from 0 on, compared exactly, by cross-multiplication.
use Rattle.std.specs.Prelude.{◌≡◌, ℕ, ◌+◌, ◌-◌, ◌*◌, ◌/◌, ◌<◌, ◌≤◌, Bool, nat_lt}
use Rattle.level.specs.declared.side.Side.{Side}
use Rattle.level.specs.declared.side.Side.TheVariants.{Low, High}

-- the fraction num / den
pub record Fraction : Type 0 where
  pub num : ℕ
  pub den : ℕ

-- a = b
abbrev pub Equal : Fraction → Fraction → Type 0
Equal a b = a.num * b.den ≡ b.num * a.den

-- a ≤ b
abbrev pub AtMost : Fraction → Fraction → Type 0
AtMost a b = a.num * b.den ≤ b.num * a.den

-- a < b, as a test
abbrev pub less : Fraction → Fraction → Bool
less a b = nat_lt (a.num * b.den) (b.num * a.den)

-- a + b = t, so that a is t - b
abbrev pub SumTo : ℕ → Fraction → Fraction → Type 0
SumTo t a b = a.num * b.den + b.num * a.den ≡ t * (a.den * b.den)

-- how far a is from the number x
abbrev pub away : ℕ → Fraction → Fraction
away x a = record { num = (a.num - x * a.den) + (x * a.den - a.num); den = a.den }

-- the number nearest to a, a half going down (low) or up (high)
abbrev pub rounded : Side → Fraction → ℕ
rounded Low a = (2 * a.num + (a.den - 1)) / (2 * a.den)
rounded High a = (2 * a.num + a.den) / (2 * a.den)

-- the same without a division: k - 1/2 < a ≤ k + 1/2 (low), k - 1/2 ≤ a < k + 1/2 (high)
abbrev pub Rounded : Side → Fraction → ℕ → Type 0
Rounded Low a k = (2 * k * a.den < 2 * a.num + a.den) × (2 * a.num ≤ (2 * k + 1) * a.den)
Rounded High a k = (2 * k * a.den ≤ 2 * a.num + a.den) × (2 * a.num < (2 * k + 1) * a.den)
