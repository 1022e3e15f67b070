-- The listing that the definitions of the sheet must give of the mean of open-close and close-open by the full 3 × 3 square.
use Rattle.std.specs.Prelude.{◌≡◌, ℕ, Bool, true, false, List, [], ◌∷◌, ◌++◌, length, take}
use Rattle.recipe.specs.declared.entry.Marks.{Marks}
use Rattle.recipe.specs.Plans.{given, checked, steps_of}
use Rattle.recipe.specs.Machines.{run}
use Rattle.recipe.specs.Sheets.{on_entries, top, marks_of}

-- a record: its kind, and the bytes of its element, the low byte first
abbrev pub bare : ℕ → List ℕ
bare k = k ∷ 0 ∷ 0 ∷ 0 ∷ 0 ∷ 0 ∷ 0 ∷ 0 ∷ []

abbrev pub by_square : ℕ → List ℕ
by_square k = k ∷ 0xC0 ∷ 0x39 ∷ 0x07 ∷ 0 ∷ 0 ∷ 0 ∷ 0 ∷ []

-- frame, open, close, frame, close, open, mean-high
abbrev pub shipped : List ℕ
shipped = bare 1 ++ (by_square 5 ++ (by_square 6 ++ (bare 1 ++ (by_square 6 ++ (by_square 5 ++ bare 10)))))

-- depth, and the top plane's reach and marks, after the first k records
pub record Seen : Type 0 where
  pub depth : ℕ
  pub reach : ℕ
  pub marks : Marks

abbrev pub seen_after : ℕ → Seen
seen_after k =
    let st = run on_entries (take k (steps_of shipped)) [] in
    record { depth = length st; reach = (top st).reach; marks = marks_of (top st) }

-- marks as B, D, K, S and W say; no plane of this recipe has T
abbrev pub marked : Bool → Bool → Bool → Bool → Bool → Marks
marked b d k s w = record { below = b; above = d; keeps = k; turns = false; settles = s; within = w }

abbrev pub line : ℕ → ℕ → Marks → Seen
line d r m = record { depth = d; reach = r; marks = m }

pub record Listed : Type 0 where
  pub first : seen_after 1 ≡ line 1 0 (marked true true true true true)
  pub second : seen_after 2 ≡ line 1 2 (marked true false true true true)
  pub third : seen_after 3 ≡ line 1 4 (marked false false true true true)
  pub fourth : seen_after 4 ≡ line 2 0 (marked true true true true true)
  pub fifth : seen_after 5 ≡ line 2 2 (marked false true true true true)
  pub sixth : seen_after 6 ≡ line 2 4 (marked false false true true true)
  pub last : seen_after 7 ≡ line 1 4 (marked false false true false true)
  pub sheet : checked true shipped ≡ given (record { planes = 2; reach = 4; marks = marked false false true false true })
