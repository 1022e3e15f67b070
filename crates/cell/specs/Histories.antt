-- Histories of a cell: calls with their answers, the newest first; what a history has installed, laid and done; and what each
-- call answers after it. Levels in a history are meanings, so that equal is equal in level.
use Rattle.std.specs.Prelude.{◌≡◌, ℕ, ◌+◌, ◌-◌, ◌*◌, min, Bool, true, false, not, ◌&&◌, List, [], ◌∷◌, length, ◌==◌, nat_le}
use Rattle.level.specs.Kind.{Kind}
use Rattle.rule.specs.Criterion.{Criterion}
use Rattle.recipe.specs.declared.entry.Sheet.{Sheet}
use Rattle.recipe.specs.Plans.{Answer, given, refused, unless, next, checked, steps_of}
use Rattle.steps.specs.Extents.{is_size}
use Rattle.steps.specs.Images.{Size}
use Rattle.steps.specs.Planes.{places}
use Rattle.steps.specs.Recipes.{image}
use Rattle.cell.specs.Refusals.{of_cell}
use Rattle.cell.specs.Rasters.{picture, raster}

-- the calls; a take is told by the length of its output
pub data Call (L : Type 0) : Type 0 where
  Admit : List ℕ → Call L
  Lay : List L → Call L
  Steps : ℕ → Call L
  Take : ℕ → Call L
  Clear : Call L

-- what an accepted call gives: the sheet; nothing but a slip; records done now and left; the image; nothing
abbrev pub Good : {L : Type 0} → Call L → Type 0
Good (Admit bytes) = Sheet
Good (Lay f) = Unit {0}
Good (Steps n) = ℕ × ℕ
Good {L} (Take n) = List L
Good Clear = Unit {0}

pub record Event (L : Type 0) : Type 0 where
  pub call : Call L
  pub answer : Answer (Good call)

abbrev pub event : {L : Type 0} → (c : Call L) → Answer (Good c) → Event L
event c a = record { call = c; answer = a }

abbrev pub History : Type 0 → Type 0
History L = List (Event L)

-- the recipe last installed; none, which is no recipe, where no admit was accepted
abbrev pub installed_by : {L : Type 0} → (c : Call L) → Answer (Good c) → List ℕ → List ℕ
installed_by c (refused r) before = before
installed_by (Admit bytes) (given a) before = bytes
installed_by (Lay f) (given a) before = before
installed_by (Steps n) (given a) before = before
installed_by (Take n) (given a) before = before
installed_by Clear (given a) before = before

abbrev pub installed : {L : Type 0} → History L → List ℕ
installed [] = []
installed (e ∷ h) = installed_by e.call e.answer (installed h)

-- the frame last laid
abbrev pub laid_by : {L : Type 0} → (c : Call L) → Answer (Good c) → List L → List L
laid_by c (refused r) before = before
laid_by (Admit bytes) (given a) before = before
laid_by (Lay f) (given a) before = f
laid_by (Steps n) (given a) before = before
laid_by (Take n) (given a) before = before
laid_by Clear (given a) before = before

abbrev pub laid : {L : Type 0} → History L → List L
laid [] = []
laid (e ∷ h) = laid_by e.call e.answer (laid h)

-- a run is open from an accepted lay to an accepted take or clear
abbrev pub open_by : {L : Type 0} → (c : Call L) → Answer (Good c) → Bool → Bool
open_by c (refused r) before = before
open_by (Admit bytes) (given a) before = before
open_by (Lay f) (given a) before = true
open_by (Steps n) (given a) before = before
open_by (Take n) (given a) before = false
open_by Clear (given a) before = false

abbrev pub is_open : {L : Type 0} → History L → Bool
is_open [] = false
is_open (e ∷ h) = open_by e.call e.answer (is_open h)

-- the records that accepted steps have done since the last lay
abbrev pub done_by : {L : Type 0} → (c : Call L) → Answer (Good c) → ℕ → ℕ
done_by c (refused r) before = before
done_by (Admit bytes) (given a) before = before
done_by (Lay f) (given a) before = 0
done_by (Steps n) (given a) before = before + a.0
done_by (Take n) (given a) before = before
done_by Clear (given a) before = before

abbrev pub done : {L : Type 0} → History L → ℕ
done [] = 0
done (e ∷ h) = done_by e.call e.answer (done h)

-- the records of the recipe that are not done yet
abbrev pub left : {L : Type 0} → History L → ℕ
left h = length (steps_of (installed h)) - done h

-- what a history has come to
pub record State (L : Type 0) : Type 0 where
  pub recipe : List ℕ
  pub frame : List L
  pub running : Bool
  pub records : ℕ

abbrev pub state : {L : Type 0} → History L → State L
state h = record { recipe = installed h; frame = laid h; running = is_open h; records = done h }

-- a cell's frame size, and the length of the block that it was made with
pub record Setting : Type 0 where
  pub width : ℕ
  pub height : ℕ
  pub room : ℕ

abbrev pub setting : ℕ → ℕ → ℕ → Setting
setting w h r = record { width = w; height = h; room = r }

abbrev pub size : Setting → Size
size s = record { width = s.width; height = s.height }

-- the levels of a frame
abbrev pub pixels : Setting → ℕ
pixels s = places (size s)

-- the cell is not shut
abbrev pub works : Setting → Bool
works s = is_size s.width s.height && nat_le (3 * pixels s) s.room

-- the block has room for the frame, the recipe's planes and the scratch plane
abbrev pub housed : Setting → Sheet → Answer Sheet
housed s sheet = unless (not (nat_le ((sheet.planes + 2) * pixels s) s.room)) (of_cell 19) (given sheet)

module _ (K : Kind) (C : Criterion) where
  -- the image that a recipe makes of a frame, as a list
  abbrev pub image_of : Setting → List ℕ → List K.Level → List K.Level
  image_of s bytes f = raster K (size s) (image K C (size s) (steps_of bytes) (picture K (size s) f))

  -- what a call answers after a history
  abbrev pub defined : Setting → History K.Level → (c : Call K.Level) → Answer (Good c)
  defined s h (Admit bytes) =
      unless (not (works s)) (of_cell 1) (unless (is_open h) (of_cell 2) (next (checked K.ranked bytes) (housed s)))
  defined s h (Lay f) =
      unless (not (works s)) (of_cell 1)
      (unless (length (installed h) == 0) (of_cell 3)
      (unless (is_open h) (of_cell 2) (unless (not (length f == pixels s)) (of_cell 20) (given tt))))
  defined s h (Steps n) =
      unless (not (works s)) (of_cell 1)
      (unless (not (is_open h)) (of_cell 4) (given (min n (left h), left h - min n (left h))))
  defined s h (Take n) =
      unless (not (works s)) (of_cell 1)
      (unless (not (is_open h)) (of_cell 4)
      (unless (not (left h == 0)) (of_cell 5)
      (unless (not (n == pixels s)) (of_cell 20) (given (image_of s (installed h) (laid h))))))
  defined s h Clear = unless (not (works s)) (of_cell 1) (unless (not (is_open h)) (of_cell 4) (given tt))

  -- a history that can happen on a new cell: each answer is the one defined after the calls before it
  abbrev pub CanHappen : Setting → History K.Level → Type 0
  CanHappen s [] = Unit {0}
  CanHappen s (e ∷ h) = CanHappen s h × (e.answer ≡ defined s h e.call)
