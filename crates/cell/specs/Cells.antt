-- A cell that has a history behind it.
use Rattle.std.specs.Prelude.{◌≡◌, ℕ, ◌+◌, ◌≤◌, true, false, List, [], ◌∷◌, length, Some, None, Option, Ok, Err, Result}
use Rattle.level.specs.Kind.{Kind}
use Rattle.rule.specs.Criterion.{Criterion}
use Rattle.recipe.specs.declared.entry.Sheet.{Sheet}
use Rattle.recipe.specs.declared.plan.Plan.{Plan}
use Rattle.recipe.specs.Plans.{Answer, given, refused, checked, steps_of}
use Rattle.steps.specs.declared.extent.Extent.{Extent}
use Rattle.steps.specs.Planes.{size_of}
use Rattle.steps.specs.Stacks.{plane_at}
use Rattle.cell.specs.declared.fault.CellFault.{CellFault}
use Rattle.cell.specs.declared.run.Run.{Run}
use Rattle.cell.specs.declared.calls.Phase.{Phase}
use Rattle.cell.specs.declared.calls.Phase.TheVariants.{Bare, Ready, Running}
use Rattle.cell.specs.declared.calls.Open.{Open}
use Rattle.cell.specs.declared.calls.Slip.{Slip}
use Rattle.cell.specs.declared.calls.Stepped.{Stepped}
use Rattle.cell.specs.declared.calls.Cell.{Cell}
use Rattle.cell.specs.Refusals.{cell_refusal}
use Rattle.cell.specs.Rasters.{picture, Put}
use Rattle.cell.specs.Histories.{Call, Good, event, History, Setting, size, State, state, works, CanHappen}
use Rattle.cell.specs.Shows.{steps_in, Shows, Leaves}

module _ (K : Kind) {X : Type 0} (m : X → K.Level) (C : Criterion) (s : Setting) (e : Extent) where
  -- the cell is open, and the extent is its frame size
  pub record Opened : Type 0 where
    pub open_cell : works s ≡ true
    pub width : e.width ≡ s.width
    pub height : e.height ≡ s.height

  -- the plan is that of the recipe installed, and the block houses it
  pub record Fits (p : Plan) (block : List X) (bytes : List ℕ) : Type 0 where
    pub opened : Opened
    pub admitted : checked K.ranked bytes ≡ given p.sheet
    pub steps : steps_in p ≡ steps_of bytes
    pub levels : p.ranked ≡ K.ranked
    pub houses : plane_at (size_of e) (2 + p.sheet.planes) ≤ length block

  -- a run: as many records done, and their images on the block
  pub record Runs (r : Run) (block : List X) (t : State K.Level) : Type 0 where
    pub fits : Fits r.plan block t.recipe
    pub opened : t.running ≡ true
    pub records : t.records ≡ r.done
    pub shows : Shows K m C (size s) (picture K (size s) t.frame) r block

  -- a recipe, and no run
  pub record Waits (p : Plan) (block : List X) (t : State K.Level) : Type 0 where
    pub fits : Fits p block t.recipe
    pub closed : t.running ≡ false

  -- no recipe yet
  pub record Empty (block : List X) (t : State K.Level) : Type 0 where
    pub opened : Opened
    pub recipe : t.recipe ≡ []
    pub closed : t.running ≡ false

  abbrev pub InPhase : Phase → List X → State K.Level → Type 0
  InPhase Bare block t = Empty block t
  InPhase (Ready p) block t = Waits p block t
  InPhase (Running r) block t = Runs r block t

-- what stands of an open cell, and that a shut one never opens
abbrev pub InState : (K : Kind) {X : Type 0} → (X → K.Level) → Criterion → Setting → Option Open → List X → State K.Level → Type 0
InState K m C s None block t = works s ≡ false
InState K m C s (Some o) block t = InPhase K m C s o.extent o.phase block t

-- this history can happen, and state and block are as it left them
pub record Behind (K : Kind) {X : Type 0} (m : X → K.Level) (C : Criterion) (s : Setting) (cell : Option Open) (block : List X) (h : History K.Level) : Type 0 where
  pub can : CanHappen K C s h
  pub room : s.room ≡ length block
  pub stands : InState K m C s cell block (state h)

-- the cell has this history behind it; m gives a pixel's meaning
abbrev pub Stands : (K : Kind) {S P R : Type 0} → (P → K.Level) → Criterion → Cell S P R → Setting → History K.Level → Type 0
Stands K m C cell s h = Behind K m C s cell.open cell.block.now h

-- the call has come about with this answer: whatever history was behind the cell, it now is longer by this event
abbrev pub Happens : (K : Kind) {S P R : Type 0} → (P → K.Level) → Criterion → Cell S P R → Cell S P R → (c : Call K.Level) → Answer (Good c) → Type 0
Happens K m C before after c a = (s : Setting) (h : History K.Level) → Stands K m C before s h → Stands K m C after s (event c a ∷ h)

-- answers as the calls return them
abbrev pub admit_answer : Result Sheet CellFault → Answer Sheet
admit_answer (Ok sheet) = given sheet
admit_answer (Err e) = refused (cell_refusal e)

abbrev pub lay_answer : Result Slip CellFault → Answer (Unit {0})
lay_answer (Ok slip) = given tt
lay_answer (Err e) = refused (cell_refusal e)

abbrev pub step_answer : Result Stepped CellFault → Answer (ℕ × ℕ)
step_answer (Ok n) = given (n.done, n.left)
step_answer (Err e) = refused (cell_refusal e)

abbrev pub take_answer : {L : Type 0} → Result (Unit {0}) (CellFault × Slip) → List L → Answer (List L)
take_answer (Ok u) out = given out
take_answer (Err e) out = refused (cell_refusal e.0)

abbrev pub clear_answer : Result (Unit {0}) (CellFault × Slip) → Answer (Unit {0})
clear_answer (Ok u) = given tt
clear_answer (Err e) = refused (cell_refusal e.0)

-- a refusal leaves the cell and its block as they were
abbrev pub RefusalKeeps : {A S P R : Type 0} → Result A CellFault → Cell S P R → Cell S P R → Type 0
RefusalKeeps (Ok a) before after = Unit {0}
RefusalKeeps (Err e) before after = after ≡ before

-- a refusal hands the slip back, and leaves the cell and its block as they were
abbrev pub SlipBack : {S P R : Type 0} → Result (Unit {0}) (CellFault × Slip) → Slip → Cell S P R → Cell S P R → Type 0
SlipBack (Ok a) slip before after = Unit {0}
SlipBack (Err e) slip before after = (e.1 ≡ slip) × (after ≡ before)

-- an accepted lay hands out a slip that is still to be spent
abbrev pub SlipDue : Result Slip CellFault → Type 0
SlipDue (Ok slip) = slip.spent ≡ false
SlipDue (Err e) = Unit {0}

-- what a lay leaves of the block: the frame in front, the rest as it was
abbrev pub LayLeaves : {P : Type 0} → Result Slip CellFault → List P → List P → List P → Type 0
LayLeaves (Ok slip) frame before after = Put frame before after
LayLeaves (Err e) frame before after = after ≡ before

-- what a step leaves of the block: in a run, all but the stack's planes and the scratch plane
abbrev pub PhaseLeaves : {P : Type 0} → Phase → Extent → List P → List P → Type 0
PhaseLeaves Bare e before after = after ≡ before
PhaseLeaves (Ready p) e before after = after ≡ before
PhaseLeaves (Running r) e before after = Leaves (size_of e) r.plan.sheet.planes before after

abbrev pub OpenLeaves : {P : Type 0} → Option Open → List P → List P → Type 0
OpenLeaves None before after = after ≡ before
OpenLeaves (Some o) before after = PhaseLeaves o.phase o.extent before after

abbrev pub StepLeaves : {S P R : Type 0} → Cell S P R → List P → Type 0
StepLeaves cell after = OpenLeaves cell.open cell.block.now after
