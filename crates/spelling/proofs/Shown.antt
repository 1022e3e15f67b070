-- What labels are printed as.
use Rattle.std.proofs.Common.{◌≡◌, ℕ, zero, suc, ◌/◌, ◌%◌, ◌^◌, ◌-◌, ◌<◌, ◌≤◌, Bool, true, false, cond, eqb, List, [], ◌∷◌, Some, Option, refl, ap, ◌∙◌, ⊎_elim, arith}
use Rattle.std.proofs.lemmas.Bool.{eq-eqb, ne_eqb, cases_lt}
use Rattle.std.specs.Fmt.{digits, digits_onto, digit_glyph, char_count, format_spec, padded_integral}
use Rattle.std.specs.Option.{option_map}
use Rattle.spelling.specs.Texts.{four_digits, hex_digit}

-- The hexadecimal digits of a number, from the last one on.
module _ (n : ℕ) (acc : List ℕ) where
  by_front : (k : ℕ) (t : Bool) → eqb (n / 16) 0 ≡ t → digits_onto (suc k) 16 true n acc ≡ cond t (digit_glyph true (n % 16) ∷ acc) (digits_onto k 16 true (n / 16) (digit_glyph true (n % 16) ∷ acc))
  by_front k t e = ap (λ (b : Bool). cond b (digit_glyph true (n % 16) ∷ acc) (digits_onto k 16 true (n / 16) (digit_glyph true (n % 16) ∷ acc))) e

  first : (i : ℕ) → 0 < i → n < 16 → digits_onto i 16 true n acc ≡ digit_glyph true (n % 16) ∷ acc
  first zero h l = absurd (omega arith)
  first (suc k) h l = by_front k true (eq-eqb _ 0 (omega arith))

  more : (i : ℕ) → 0 < i → 16 ≤ n → digits_onto i 16 true n acc ≡ digits_onto (i - 1) 16 true (n / 16) (digit_glyph true (n % 16) ∷ acc)
  more zero h l = absurd (omega arith)
  more (suc k) h l = by_front k false (ne_eqb _ 0 (λ z. omega (arith, z))) ∙ ap (λ (j : ℕ). digits_onto j 16 true (n / 16) (digit_glyph true (n % 16) ∷ acc)) {x = k} {y = suc k - 1} (omega arith)

all_digits : (n : ℕ) → digits 16 true n ≡ digits_onto 64 16 true n []
unfolding digits
all_digits n = refl

-- numerals of one to four digits, padded with zeros to four
abbrev padded : List ℕ → List ℕ
padded numeral = padded_integral (format_spec 32 0 4 4 (2 ^ 64 - 1)) false [] numeral

pad_one : (d : ℕ) → padded (d ∷ []) ≡ 48 ∷ 48 ∷ 48 ∷ d ∷ []
unfolding padded_integral char_count
pad_one d = refl

pad_two : (c d : ℕ) → padded (c ∷ d ∷ []) ≡ 48 ∷ 48 ∷ c ∷ d ∷ []
unfolding padded_integral char_count
pad_two c d = refl

pad_three : (b c d : ℕ) → padded (b ∷ c ∷ d ∷ []) ≡ 48 ∷ b ∷ c ∷ d ∷ []
unfolding padded_integral char_count
pad_three b c d = refl

pad_four : (a b c d : ℕ) → padded (a ∷ b ∷ c ∷ d ∷ []) ≡ a ∷ b ∷ c ∷ d ∷ []
unfolding padded_integral char_count
pad_four a b c d = refl

-- four digits by their values
four_of : (n a b c d : ℕ) → a ≡ n / 256 / 16 → b ≡ n / 256 % 16 → c ≡ n % 256 / 16 → d ≡ n % 256 % 16 → hex_digit a ∷ hex_digit b ∷ hex_digit c ∷ hex_digit d ∷ [] ≡ four_digits n
four_of n a b c d p q r s = cc

four_padded : (n : ℕ) → n < 65536 → padded (digits 16 true n) ≡ four_digits n
four_padded n small = ap padded (all_digits n) ∙ ⊎_elim one (λ l. ⊎_elim (two l) (λ l. ⊎_elim (three l) four (cases_lt n 4096)) (cases_lt n 256)) (cases_lt n 16)
  where
    one : n < 16 → padded (digits_onto 64 16 true n []) ≡ four_digits n
    one l = ap padded (first n [] 64 (omega arith) l) ∙ (pad_one _ ∙ four_of n 0 0 0 (n % 16) (omega arith) (omega arith) (omega arith) (omega arith))

    two : 16 ≤ n → n < 256 → padded (digits_onto 64 16 true n []) ≡ four_digits n
    two m l =
        ap padded (more n [] 64 (omega arith) m ∙ first (n / 16) _ 63 (omega arith) (omega arith))
        ∙ (pad_two _ _ ∙ four_of n 0 0 (n / 16 % 16) (n % 16) (omega arith) (omega arith) (omega arith) (omega arith))

    three : 256 ≤ n → n < 4096 → padded (digits_onto 64 16 true n []) ≡ four_digits n
    three m l =
        ap padded (more n [] 64 (omega arith) (omega arith) ∙ (more (n / 16) _ 63 (omega arith) (omega arith) ∙ first (n / 16 / 16) _ 62 (omega arith) (omega arith)))
        ∙ (pad_three _ _ _ ∙ four_of n 0 (n / 16 / 16 % 16) (n / 16 % 16) (n % 16) (omega arith) (omega arith) (omega arith) (omega arith))

    four : 4096 ≤ n → padded (digits_onto 64 16 true n []) ≡ four_digits n
    four m =
        ap padded (more n [] 64 (omega arith) (omega arith) ∙ (more (n / 16) _ 63 (omega arith) (omega arith) ∙ (more (n / 16 / 16) _ 62 (omega arith) (omega arith) ∙ first (n / 16 / 16 / 16) _ 61 (omega arith) (omega arith))))
        ∙ (pad_four _ _ _ _ ∙ four_of n (n / 16 / 16 / 16 % 16) (n / 16 / 16 % 16) (n / 16 % 16) (n % 16) (omega arith) (omega arith) (omega arith) (omega arith))

-- what `{:04X}` writes of sixteen flags
pub flags_shown : (o : Option (List ℕ)) (n flags : ℕ) → o ≡ Some (digits 16 true n) → n ≡ flags → flags < 65536 → option_map (padded_integral (format_spec 32 0 4 4 (2 ^ 64 - 1)) false []) o ≡ Some (four_digits flags)
flags_shown o n flags is same small = ap (option_map (padded_integral (format_spec 32 0 4 4 (2 ^ 64 - 1)) false [])) (is ∙ ap (λ k. Some (digits 16 true k)) same) ∙ ap Some (four_padded flags small)
