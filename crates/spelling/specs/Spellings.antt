-- Which words spell which levels.
use Rattle.std.specs.Prelude.{◌≡◌, ℕ, ◌+◌, ◌*◌, ◌^◌, ◌<◌, List, [], ◌∷◌, ◌++◌, length, ℤ, Some, Option, MatchOption, FitsSigned, ◌≢◌, slice_index}
use Rattle.std.specs.Int.{w16}
use Rattle.std.specs.Str.Parse.{IsNumeral, digits_value, without_leading_plus, without_leading_sign, signed_digits_value}
use Rattle.spelling.specs.Texts.{hex_bytes}

-- a word is read as what it spells, and as nothing where it spells nothing
abbrev pub Read : {W A : Type 0} → (W → A → Type 0) → W → Option A → Type 0
Read {A} spells word r = MatchOption r ((x : A) → spells word x → ⊥) (λ x. spells word x)

-- a text is this number in decimal, after a plus or not, and so many bits hold it
pub record Decimal (bits : ℕ) (text : List ℕ) (n : ℕ) : Type 0 where
  pub numeral : IsNumeral 10 (without_leading_plus text)
  pub is : digits_value 10 (without_leading_plus text) ≡ n
  pub fits : n < 2 ^ bits

-- a text is this number in decimal, after a sign or not, and sixteen bits hold it
pub record Signed (text : List ℕ) (n : ℤ) : Type 0 where
  pub numeral : IsNumeral 10 (without_leading_sign text)
  pub is : signed_digits_value 10 text ≡ n
  pub fits : FitsSigned w16 n

-- a text is four hexadecimal digits, of these sixteen flags
pub record Flagged (text : List ℕ) (flags : ℕ) : Type 0 where
  pub high : ℕ
  pub low : ℕ
  pub bytes : hex_bytes text ≡ Some (high ∷ low ∷ [])
  pub is : flags ≡ 256 * high + low

-- a text is two spellings, joined by its first slash
pub record Joined {A B : Type 0} (first : List ℕ → A → Type 0) (second : List ℕ → B → Type 0) (text : List ℕ) (x : A) (y : B) : Type 0 where
  pub before : List ℕ
  pub after : List ℕ
  pub parts : text ≡ before ++ 47 ∷ after
  pub whole : (i : ℕ) → i < length before → slice_index before i ≢ 47
  pub left : first before x
  pub right : second after y

-- the words spell the levels, one by one
abbrev pub Spell : {L : Type 0} → (List ℕ → L → Type 0) → List (List ℕ) → List L → Type 0
Spell spells [] [] = Unit {0}
Spell spells [] (x ∷ xs) = ⊥
Spell spells (word ∷ rest) [] = ⊥
Spell spells (word ∷ rest) (x ∷ xs) = spells word x × Spell spells rest xs
