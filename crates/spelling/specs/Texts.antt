-- What a script's words say.
use Rattle.std.specs.Prelude.{ℕ, ◌+◌, ◌-◌, ◌*◌, ◌/◌, ◌%◌, max, cond, List, [], ◌∷◌, ◌++◌, Some, None, Option, ◌==◌, nat_le, nat_lt}

-- the value of a hexadecimal digit, of either case
abbrev pub hex_value : ℕ → Option ℕ
hex_value c =
    cond (nat_lt c 48) None (cond (nat_le c 57) (Some (c - 48))
    (cond (nat_lt c 65) None (cond (nat_le c 70) (Some (c - 55))
    (cond (nat_lt c 97) None (cond (nat_le c 102) (Some (c - 87)) None)))))

-- the hexadecimal digit of a value below 16
abbrev pub hex_digit : ℕ → ℕ
hex_digit v = cond (nat_lt v 10) (48 + v) (55 + v)

-- the byte that two digits write
abbrev pub joined : Option ℕ → Option ℕ → Option ℕ
joined None low = None
joined (Some high) None = None
joined (Some high) (Some low) = Some (16 * high + low)

abbrev pub followed : Option ℕ → Option (List ℕ) → Option (List ℕ)
followed None rest = None
followed (Some byte) None = None
followed (Some byte) (Some rest) = Some (byte ∷ rest)

-- the bytes that a text of hexadecimal digits writes, two digits each
abbrev pub hex_bytes : List ℕ → Option (List ℕ)
hex_bytes [] = Some []
hex_bytes (high ∷ []) = None
hex_bytes (high ∷ low ∷ rest) = followed (joined (hex_value high) (hex_value low)) (hex_bytes rest)

-- the four hexadecimal digits of sixteen flags
abbrev pub four_digits : ℕ → List ℕ
four_digits flags =
    hex_digit (flags / 256 / 16) ∷ hex_digit (flags / 256 % 16) ∷ hex_digit (flags % 256 / 16) ∷ hex_digit (flags % 256 % 16) ∷ []

-- the texts of levels, a space before each
abbrev pub spaced : {L : Type 0} → (L → List ℕ) → List L → List ℕ
spaced text [] = []
spaced text (x ∷ rest) = 32 ∷ (text x ++ spaced text rest)

-- the texts of levels, parted by one space
abbrev pub row_text : {L : Type 0} → (L → List ℕ) → List L → List ℕ
row_text text [] = []
row_text text (x ∷ rest) = text x ++ spaced text rest

-- what stands before the level at a place of an image: an end of line before each row but the first, a space before any other
abbrev pub gap : ℕ → ℕ → List ℕ
gap width at = cond (at == 0) [] (cond (at % max width 1 == 0) (10 ∷ []) (32 ∷ []))

-- levels as text from a place of an image on
abbrev pub rows_from : {L : Type 0} → (L → List ℕ) → ℕ → ℕ → List L → List ℕ
rows_from text width at [] = []
rows_from text width at (x ∷ rest) = gap width at ++ (text x ++ rows_from text width (at + 1) rest)

-- an image as text: a line for each row, levels parted by one space
abbrev pub rows_text : {L : Type 0} → (L → List ℕ) → ℕ → List L → List ℕ
rows_text text width levels = rows_from text width 0 levels
