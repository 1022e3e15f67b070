-- Structuring elements: sets of offsets. Offset b, one of 25, leads b % 5 - 2 columns to the right and b / 5 - 2 rows down.
use Rattle.std.specs.Prelude.{◌≡◌, ℕ, zero, suc, ◌-◌, ◌/◌, ◌%◌, ◌^◌, ◌<◌, ◌≤◌, max, Bool, cond, ◌&&◌, T, ◌==◌, nat_lt}
use Rattle.recipe.specs.declared.element.Element.{Element}

-- a set of offsets, as a test
abbrev pub Offsets : Type 0
Offsets = ℕ → Bool

-- the offsets that the bits of a number mark
abbrev pub bits : ℕ → Offsets
bits n b = n / 2 ^ b % 2 == 1

abbrev pub offsets : Element → Offsets
offsets e = bits e.bits

-- an element marks some offset, and none past the 25
abbrev pub is_element : ℕ → Bool
is_element n = nat_lt 0 n && nat_lt n (2 ^ 25)

-- every offset negated
abbrev pub turned : Offsets → Offsets
turned E b = E (24 - b)

-- the centre is the offset that leads nowhere
abbrev pub centred : Offsets → Bool
centred E = E 12

-- how many columns or rows an offset leads away, whichever is more
abbrev pub distance : ℕ → ℕ
distance b = max (max (b % 5 - 2) (2 - b % 5)) (max (b / 5 - 2) (2 - b / 5))

-- the values at those of the first n numbers that are taken, put together
unfoldable pub gather : {A : Type 0} → (A → A → A) → A → (ℕ → Bool) → (ℕ → A) → ℕ → A
gather op none takes value zero = none
gather op none takes value (suc n) =
    let before = gather op none takes value n in cond (takes n) (op before (value n)) before

-- the greatest distance of an element's offsets, 0 if there are none
abbrev pub radius : Offsets → ℕ
radius E = gather max 0 E distance 25

-- r is the greatest |dx| or |dy| of the offsets: none leads further, and unless it is 0 one leads as far
pub record GreatestDistance (E : Offsets) (r : ℕ) : Type 0 where
  pub bound : (b : ℕ) → b < 25 → T (E b) → distance b ≤ r
  pub reached : 0 < r → (b : ℕ) × (b < 25) × T (E b) × (distance b ≡ r)
