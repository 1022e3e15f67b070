-- How a recipe's bytes are checked, and what the check answers.
use Rattle.std.specs.Prelude.{ℕ, zero, suc, ◌+◌, ◌*◌, ◌/◌, ◌%◌, max, Bool, true, false, not, ◌&&◌, ◌||◌, List, [], ◌∷◌, length, take, drop, Some, None, ◌==◌, nat_le, nat_lt, slice_index, slice_index_or}
use Rattle.recipe.specs.declared.element.Element.{Element}
use Rattle.recipe.specs.declared.step.Step.{Step}
use Rattle.recipe.specs.declared.step.Step.TheVariants.{Frame, Negate, Erode, Dilate, Open, Close, Meet, Join, MeanLow, MeanHigh, SelectLow, SelectHigh}
use Rattle.recipe.specs.declared.fault.Layer.TheVariants.{Record, Plan}
use Rattle.recipe.specs.declared.fault.Refusal.{Refusal}
use Rattle.recipe.specs.declared.entry.Entry.{Entry}
use Rattle.recipe.specs.declared.entry.Sheet.{Sheet}
use Rattle.recipe.specs.Elements.{is_element}
use Rattle.recipe.specs.Steps.{form, wants, reads_ranks, adds}
use Rattle.recipe.specs.Machines.{stepped}
use Rattle.recipe.specs.Sheets.{on_entries, sheet_of}
use Rattle.recipe.specs.Refusals.{refusal}

-- what a call gives, or the refusal that it answers
pub data Answer (A : Type 0) : Type 0 where
  given : A → Answer A
  refused : Refusal → Answer A

-- refused where the test holds, else as the rest says
abbrev pub unless : {A : Type 0} → Bool → Refusal → Answer A → Answer A
unless true r rest = refused r
unless false r rest = rest

-- the first refusal stops
abbrev pub next : {A B : Type 0} → Answer A → (A → Answer B) → Answer B
next (given a) f = f a
next (refused r) f = refused r

-- what is given, turned into something else
abbrev pub mapped : {A B : Type 0} → (A → B) → Answer A → Answer B
mapped f (given a) = given (f a)
mapped f (refused r) = refused r

-- record i is the eight bytes from 8 * i on
abbrev pub record_at : List ℕ → ℕ → List ℕ
record_at bytes i = take 8 (drop (8 * i) bytes)

-- byte 0 of a record is its kind
abbrev pub kind : List ℕ → ℕ
kind r = slice_index r 0

-- bytes 1 to 4 are its element, the low byte first
abbrev pub element : List ℕ → ℕ
element r = slice_index r 1 + slice_index r 2 * 256 + slice_index r 3 * 65536 + slice_index r 4 * 16777216

-- kinds 3 to 6, 11 and 12 have an element
abbrev pub has_element : ℕ → Bool
has_element k = (nat_le 3 k && nat_le k 6) || (nat_le 11 k && nat_le k 12)

-- the bytes that are to be zero are: the last three, and the element's where there is none
abbrev pub padded : List ℕ → Bool
padded r =
    (slice_index r 5 == 0) && (slice_index r 6 == 0 && (slice_index r 7 == 0 && (has_element (kind r) || element r == 0)))

-- the step of a kind
abbrev pub named : ℕ → Element → Step
named k e =
    slice_index_or
    (Negate ∷ Frame ∷ Negate ∷ Erode e ∷ Dilate e ∷ Open e ∷ Close e ∷ Meet ∷ Join ∷ MeanLow ∷ MeanHigh ∷ SelectLow e ∷ SelectHigh e ∷ [])
    k Negate

abbrev pub step_of : List ℕ → Step
step_of r = named (kind r) (record { bits = element r })

-- the kind is none of the twelve
abbrev pub unknown_kind : List ℕ → Bool
unknown_kind r = not (nat_le 1 (kind r) && nat_le (kind r) 12)

-- a byte that is to be zero is not
abbrev pub not_zero : List ℕ → Bool
not_zero r = not (padded r)

-- the element is empty, or has bits above 24
abbrev pub bad_element : List ℕ → Bool
bad_element r = has_element (kind r) && not (is_element (element r))

-- record i as the reader takes it
abbrev pub reads : ℕ → List ℕ → Answer Step
reads i r =
    unless (unknown_kind r) (refusal 12 Record (Some i))
    (unless (not_zero r) (refusal 13 Record (Some i)) (unless (bad_element r) (refusal 14 Record (Some i)) (given (step_of r))))

-- the stack of entries while a recipe is checked, and the greatest depth so far
pub record Progress : Type 0 where
  pub entries : List Entry
  pub planes : ℕ

abbrev pub grown : Step → Progress → Progress
grown x t =
    let st = stepped on_entries x t.entries in
    record { entries = st; planes = max t.planes (length st) }

-- the step reads ranks, and the levels have none
abbrev pub lacks_ranks : Bool → Step → Bool
lacks_ranks ranked x = reads_ranks (form x) && not ranked

-- a stack of d planes is too low for the step
abbrev pub lacks_planes : ℕ → Step → Bool
lacks_planes d x = nat_lt d (wants (form x))

-- the step would put a fifth plane on a stack of d
abbrev pub lacks_room : ℕ → Step → Bool
lacks_room d x = adds (form x) && nat_le 4 d

-- the step of record i finds its ranks and planes, and room
abbrev pub placed : Bool → ℕ → Step → Progress → Answer Progress
placed ranked i x t =
    unless (lacks_ranks ranked x) (refusal 15 Plan (Some i))
    (unless (lacks_planes (length t.entries) x) (refusal 16 Plan (Some i))
    (unless (lacks_room (length t.entries) x) (refusal 17 Plan (Some i)) (given (grown x t))))

-- n records from record i on, all checks of one before the next
abbrev pub walked : Bool → List ℕ → ℕ → ℕ → Progress → Answer Progress
walked ranked bytes zero i t = given t
walked ranked bytes (suc n) i t =
    next (reads i (record_at bytes i)) (λ x. next (placed ranked i x t) (λ u. walked ranked bytes n (i + 1) u))

abbrev pub nothing : Progress
nothing = record { entries = []; planes = 0 }

-- 1 to 64 whole records
abbrev pub right_length : ℕ → Bool
right_length n = nat_le 8 n && (nat_le n 512 && n % 8 == 0)

-- one plane is left, and the sheet is its
abbrev pub finished : Progress → Answer Sheet
finished t = unless (nat_lt 1 (length t.entries)) (refusal 18 Plan None) (given (sheet_of t.planes t.entries))

-- what a recipe's check answers: its sheet, or the first refusal
abbrev pub checked : Bool → List ℕ → Answer Sheet
checked ranked bytes =
    unless (not (right_length (length bytes))) (refusal 11 Plan None)
    (next (walked ranked bytes (length bytes / 8) 0 nothing) finished)

-- the steps of a recipe's records
abbrev pub steps_from : List ℕ → ℕ → ℕ → List Step
steps_from bytes zero i = []
steps_from bytes (suc n) i = step_of (record_at bytes i) ∷ steps_from bytes n (i + 1)

abbrev pub steps_of : List ℕ → List Step
steps_of bytes = steps_from bytes (length bytes / 8) 0
