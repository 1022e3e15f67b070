-- The mirror of a recipe: the low and the high form of every step exchanged.
use Rattle.std.specs.Prelude.{◌≡◌, ℕ, zero, suc, ◌*◌, ◌/◌, ◌<◌, List, [], ◌∷◌, length, ◌≢◌, slice_index, slice_index_or, slice_set}
use Rattle.recipe.specs.declared.entry.Marks.{Marks}
use Rattle.recipe.specs.declared.entry.Sheet.{Sheet}
use Rattle.recipe.specs.Plans.{Answer, mapped}

-- kinds 3 and 4 change places, and so do 5 and 6, 7 and 8, 9 and 10, 11 and 12; any other byte is its own opposite
abbrev pub opposite_kind : ℕ → ℕ
opposite_kind k = slice_index_or (0 ∷ 1 ∷ 2 ∷ 4 ∷ 3 ∷ 6 ∷ 5 ∷ 8 ∷ 7 ∷ 10 ∷ 9 ∷ 12 ∷ 11 ∷ []) k k

-- the kinds of the first n records exchanged
abbrev pub exchanged : ℕ → List ℕ → List ℕ
exchanged zero bytes = bytes
exchanged (suc n) bytes = slice_set (exchanged n bytes) (8 * n) (opposite_kind (slice_index bytes (8 * n)))

-- the mirrored recipe; what follows its whole records stays
abbrev pub mirror : List ℕ → List ℕ
mirror bytes = exchanged (length bytes / 8) bytes

-- each whole record has the opposite kind, and no other byte has changed
pub record Mirrored (bytes mirrored : List ℕ) : Type 0 where
  pub long : length mirrored ≡ length bytes
  pub kinds : (i : ℕ) → i < length bytes / 8 → slice_index mirrored (8 * i) ≡ opposite_kind (slice_index bytes (8 * i))
  pub others : (k : ℕ) → ((i : ℕ) → i < length bytes / 8 → k ≢ 8 * i) → slice_index mirrored k ≡ slice_index bytes k

-- B and D change places
abbrev pub mirror_marks : Marks → Marks
mirror_marks m = record { below = m.above; above = m.below; keeps = m.keeps; turns = m.turns; settles = m.settles; within = m.within }

abbrev pub mirror_sheet : Sheet → Sheet
mirror_sheet s = record { planes = s.planes; reach = s.reach; marks = mirror_marks s.marks }

-- the same refusal, or the mirrored sheet
abbrev pub mirror_answer : Answer Sheet → Answer Sheet
mirror_answer a = mapped mirror_sheet a
