-- A cell with the slip of its open run.
use Rattle.std.specs.Prelude.{◌≡◌, Bool, false, List, ◌∷◌, is_some, Ok, Err, Result}
use Rattle.level.specs.Kind.{Kind}
use Rattle.rule.specs.Criterion.{Criterion}
use Rattle.recipe.specs.Plans.{Answer, given, refused}
use Rattle.cell.specs.declared.fault.CellFault.{CellFault}
use Rattle.cell.specs.declared.calls.Cell.{Cell}
use Rattle.cell.specs.Refusals.{cell_refusal}
use Rattle.cell.specs.Histories.{Call, Good, event, History, Setting, is_open}
use Rattle.cell.specs.Cells.{Stands}
use Rattle.desk.specs.declared.desk.Desk.{Desk}

-- some history is behind the cell, and it leaves a run open, or none
pub record Kept (K : Kind) {S P R : Type 0} (m : P → K.Level) (C : Criterion) (cell : Cell S P R) (running : Bool) : Type 0 where
  pub made : Setting
  pub past : History K.Level
  pub behind : Stands K m C cell made past
  pub run : is_open past ≡ running

-- this history is behind the desk's cell, and the desk has a slip exactly while it leaves a run open
pub record After (K : Kind) {S P R : Type 0} (m : P → K.Level) (C : Criterion) (desk : Desk S P R) (made : Setting) (past : History K.Level) : Type 0 where
  pub behind : Stands K m C desk.cell made past
  pub slip : is_open past ≡ is_some desk.slip

-- some history is behind the desk
pub record Tidy (K : Kind) {S P R : Type 0} (m : P → K.Level) (C : Criterion) (desk : Desk S P R) : Type 0 where
  pub made : Setting
  pub past : History K.Level
  pub after : After K m C desk made past

-- the call has come about on the desk with this answer: whatever history was behind it, it now is longer by this event
abbrev pub ComesAbout : (K : Kind) {S P R : Type 0} → (P → K.Level) → Criterion → Desk S P R → Desk S P R → (c : Call K.Level) → Answer (Good c) → Type 0
ComesAbout K m C before after c a = (s : Setting) (h : History K.Level) → After K m C before s h → After K m C after s (event c a ∷ h)

-- the answer to a lay or a clear that keeps its slip to itself
abbrev pub plain_answer : Result (Unit {0}) CellFault → Answer (Unit {0})
plain_answer (Ok u) = given tt
plain_answer (Err e) = refused (cell_refusal e)

-- the answer to such a take, with the levels that the output then holds
abbrev pub image_answer : {L : Type 0} → Result (Unit {0}) CellFault → List L → Answer (List L)
image_answer (Ok u) out = given out
image_answer (Err e) out = refused (cell_refusal e)

-- what is told of a call's answer, and whether a slip is at hand afterwards
abbrev pub Told : {S : Type 0} → Result (Unit {0}) (CellFault × S) → Result (Unit {0}) CellFault → Bool → Bool → Type 0
Told (Ok u) told before after = (told ≡ Ok tt) × (after ≡ false)
Told (Err e) told before after = (told ≡ Err e.0) × (after ≡ before)
