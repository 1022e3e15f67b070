-- The words of a text, parted by ASCII white space: space, tab, line feed, form feed, carriage return; or by spaces alone.
use Rattle.std.specs.Prelude.{◌≡◌, ℕ, cond, List, [], ◌∷◌, ◌==◌, take, drop}
use Rattle.std.specs.Char.{is_ascii_whitespace}
use Rattle.std.specs.List.{before_first, after_first}
use Rattle.std.specs.Str.{IsCharBoundary}

-- the text from its first byte that is no white space
abbrev pub unpadded : List ℕ → List ℕ
unpadded [] = []
unpadded (b ∷ bs) = cond (is_ascii_whitespace b) (unpadded bs) (b ∷ bs)

-- a byte in front of a text that has no white space at its end
abbrev pub closing : ℕ → List ℕ → List ℕ
closing b [] = cond (is_ascii_whitespace b) [] (b ∷ [])
closing b (c ∷ cs) = b ∷ c ∷ cs

-- the text up to its last byte that is no white space
abbrev pub unended : List ℕ → List ℕ
unended [] = []
unended (b ∷ bs) = closing b (unended bs)

-- the text without the white space at its two ends
abbrev pub trimmed : List ℕ → List ℕ
trimmed text = unended (unpadded text)

-- the bytes before the first white space
abbrev pub front : List ℕ → List ℕ
front [] = []
front (b ∷ bs) = cond (is_ascii_whitespace b) [] (b ∷ front bs)

-- the bytes from the first white space on
abbrev pub behind : List ℕ → List ℕ
behind [] = []
behind (b ∷ bs) = cond (is_ascii_whitespace b) (b ∷ bs) (behind bs)

-- what stands after the first word and the white space behind it
abbrev pub further : List ℕ → List ℕ
further text = unpadded (behind text)

-- the first word of a text, and what stands after it
pub record Cut : Type 0 where
  pub front : List ℕ → List ℕ
  pub further : List ℕ → List ℕ

-- a text cut at its first white space
abbrev pub at_white_space : Cut
at_white_space = record { front = front; further = further }

-- a text cut at its first space; what stands after it has no white space at its two ends
abbrev pub at_spaces : Cut
at_spaces = record { front = before_first (λ b. b == 32); further = λ text. trimmed (after_first (λ b. b == 32) text) }

-- the first word of a text ends before this place
pub record WordEnds (text : List ℕ) (at : ℕ) : Type 0 where
  pub word : take at text ≡ front text
  pub rest : drop at text ≡ behind text
  pub boundary : IsCharBoundary text at

-- a byte in front of the first word
abbrev pub lengthened : ℕ → List (List ℕ) → List (List ℕ)
lengthened b [] = (b ∷ []) ∷ []
lengthened b (word ∷ rest) = (b ∷ word) ∷ rest

-- the words when a byte that is no white space comes in front of a text
abbrev pub begun : ℕ → List ℕ → List (List ℕ) → List (List ℕ)
begun b [] rest = (b ∷ []) ∷ rest
begun b (c ∷ cs) rest = cond (is_ascii_whitespace c) ((b ∷ []) ∷ rest) (lengthened b rest)

-- the words of a text, in order
abbrev pub words : List ℕ → List (List ℕ)
words [] = []
words (b ∷ bs) = cond (is_ascii_whitespace b) (words bs) (begun b bs (words bs))
