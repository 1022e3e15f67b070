-- Laws of admission.
use Rattle.std.specs.Prelude.{◌≡◌, ℕ, zero, suc, ◌+◌, ◌/◌, ◌≤◌, max, Bool, true, false, not, ◌↔◌, List, [], ◌∷◌, ◌++◌, length, Some, None, nat_lt}
use Rattle.std.specs.List.{AllByRecursion as Every}
use Rattle.level.specs.declared.side.Side.{Side}
use Rattle.recipe.specs.declared.element.Element.{Element}
use Rattle.recipe.specs.declared.step.Step.{Step}
use Rattle.recipe.specs.declared.entry.Entry.{Entry}
use Rattle.recipe.specs.declared.entry.Sheet.{Sheet}
use Rattle.recipe.specs.declared.fault.Layer.TheVariants.{Record, Plan}
use Rattle.recipe.specs.declared.fault.Refusal.{Refusal}
use Rattle.recipe.specs.Steps.{Change, filtering, Merge}
use Rattle.recipe.specs.Machines.{Machine, stepped, run}
use Rattle.recipe.specs.Sheets.{on_entries, sheet_of}
use Rattle.recipe.specs.Refusals.{refusal}
use Rattle.recipe.specs.Plans.{given, refused, record_at, step_of, steps_from, steps_of, unknown_kind, not_zero, bad_element, lacks_ranks, lacks_planes, lacks_room, right_length, checked}
use Rattle.recipe.specs.Mirrors.{mirror, mirror_answer}

-- a refusal, and whether its condition holds
pub record Condition : Type 0 where
  pub holds : Bool
  pub answer : Refusal

abbrev pub when : Bool → Refusal → Condition
when t r = record { holds = t; answer = r }

-- the stack of entries before record i
abbrev pub stack_before : List ℕ → ℕ → List Entry
stack_before bytes i = run on_entries (steps_from bytes i 0) []

-- the conditions of record i, whose bytes are r, on a stack of d planes
abbrev pub of_record : Bool → ℕ → List ℕ → ℕ → List Condition
of_record ranked i r d =
    when (unknown_kind r) (refusal 12 Record (Some i))
    ∷ when (not_zero r) (refusal 13 Record (Some i))
    ∷ when (bad_element r) (refusal 14 Record (Some i))
    ∷ when (lacks_ranks ranked (step_of r)) (refusal 15 Plan (Some i))
    ∷ when (lacks_planes d (step_of r)) (refusal 16 Plan (Some i))
    ∷ when (lacks_room d (step_of r)) (refusal 17 Plan (Some i))
    ∷ []

-- the conditions of n records from record i on
abbrev pub of_records : Bool → List ℕ → ℕ → ℕ → List Condition
of_records ranked bytes zero i = []
of_records ranked bytes (suc n) i =
    of_record ranked i (record_at bytes i) (length (stack_before bytes i)) ++ of_records ranked bytes n (i + 1)

-- all conditions on which a recipe is refused, in the order of the checks
abbrev pub conditions : Bool → List ℕ → List Condition
conditions ranked bytes =
    when (not (right_length (length bytes))) (refusal 11 Plan None)
    ∷ (of_records ranked bytes (length bytes / 8) 0
    ++ (when (nat_lt 1 (length (stack_before bytes (length bytes / 8)))) (refusal 18 Plan None) ∷ []))

-- the greatest depth while steps run on a stack
abbrev pub deepest : List Step → List Entry → ℕ
deepest [] st = length st
deepest (x ∷ xs) st = max (length st) (deepest xs (stepped on_entries x st))

-- the sheet of a recipe's steps
abbrev pub sheet_from : List Step → Sheet
sheet_from steps = sheet_of (deepest steps []) (run on_entries steps [])

abbrev pub Unmet : Condition → Type 0
Unmet c = c.holds ≡ false

-- r is the refusal of the first condition that holds
pub record First (cs : List Condition) (r : Refusal) : Type 0 where
  pub before : List Condition
  pub after : List Condition
  pub split : cs ≡ before ++ (when true r ∷ after)
  pub passed : Every Unmet before

-- a recipe is admitted exactly when no condition holds, with the sheet of its steps; else the first that holds is answered
pub record Admission (ranked : Bool) (bytes : List ℕ) : Type 0 where
  pub admitted : Every Unmet (conditions ranked bytes) → checked ranked bytes ≡ given (sheet_from (steps_of bytes))
  pub unmet : (s : Sheet) → checked ranked bytes ≡ given s → Every Unmet (conditions ranked bytes)
  pub first : (r : Refusal) → checked ranked bytes ≡ refused r → First (conditions ranked bytes) r
  pub stopped : (r : Refusal) → First (conditions ranked bytes) r → checked ranked bytes ≡ refused r

abbrev pub AdmissionLaw : Type 0
AdmissionLaw = (ranked : Bool) (bytes : List ℕ) → Admission ranked bytes

-- mirroring twice gives the recipe back, and the mirrored recipe is answered alike, with B and D exchanged
pub record Mirroring (ranked : Bool) (bytes : List ℕ) : Type 0 where
  pub twice : mirror (mirror bytes) ≡ bytes
  pub answered : checked ranked (mirror bytes) ≡ mirror_answer (checked ranked bytes)

abbrev pub MirrorLaw : Type 0
MirrorLaw = (ranked : Bool) (bytes : List ℕ) → Mirroring ranked bytes

-- a sheet has 1 to 4 planes, and a reach of at most 252
pub record Bounds (s : Sheet) : Type 0 where
  pub some : 1 ≤ s.planes
  pub few : s.planes ≤ 4
  pub near : s.reach ≤ 252

abbrev pub BoundsLaw : Type 0
BoundsLaw = (ranked : Bool) (bytes : List ℕ) (s : Sheet) → checked ranked bytes ≡ given s → Bounds s

-- how a plane was made
pub data Making : Type 0 where
  laid : Making
  changed : Change → Making → Making
  merged : Merge → Making → Making → Making

abbrev pub on_makings : Machine Making
on_makings = record { begin = laid; one = changed; two = merged }

-- a chain of N is the frame, or open or close by N of a chain of N
pub data ChainOf (n : Element) : Making → Type 0 where
  frame : ChainOf n laid
  filtered : {m : Making} (d : Side) → ChainOf n m → ChainOf n (changed (filtering d n) m)

-- the making of a recipe's last plane
abbrev pub last_making : List Making → Making
last_making [] = laid
last_making (m ∷ st) = m

-- S stands exactly on chains
abbrev pub SettlesLaw : Type 0
SettlesLaw =
    (ranked : Bool) (bytes : List ℕ) (s : Sheet) → checked ranked bytes ≡ given s →
    (s.marks.settles ≡ true) ↔ ((n : Element) × ChainOf n (last_making (run on_makings (steps_of bytes) [])))
