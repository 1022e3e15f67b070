-- Lines served by a desk, whatever history is behind it.
use Rattle.std.specs.Prelude.{◌≡◌, ℕ, List, Option, Result}
use Rattle.level.specs.Kind.{Kind}
use Rattle.rule.specs.Criterion.{Criterion}
use Rattle.cell.specs.Histories.{History, Setting}
use Rattle.desk.specs.declared.desk.Desk.{Desk}
use Rattle.desk.specs.Desks.{After}
use Rattle.commands.specs.Commands.{Asked}
use Rattle.spelling.specs.Words.{Cut}
use Rattle.transcripts.specs.declared.reply.Trouble.{Trouble}
use Rattle.transcripts.specs.declared.reply.Trouble.TheVariants.{Unread, NotText, NoBytes, NoLevels, TooLong, NoMemory, NoCell}
use Rattle.transcripts.specs.declared.line.Start.{Start}
use Rattle.transcripts.specs.Texts.{unserved_text}
use Rattle.transcripts.specs.Transcripts.{Celled, Lines, Served}

-- why a line is not served is told, or something in place of a line that there is no memory for
abbrev pub TroubleTold : (ℕ → List ℕ → Type 0) → ℕ → Trouble → List ℕ → Type 0
TroubleTold Misses n (Unread fault) text = text ≡ unserved_text n (Unread fault)
TroubleTold Misses n NotText text = text ≡ unserved_text n NotText
TroubleTold Misses n NoBytes text = text ≡ unserved_text n NoBytes
TroubleTold Misses n NoLevels text = text ≡ unserved_text n NoLevels
TroubleTold Misses n TooLong text = text ≡ unserved_text n TooLong
TroubleTold Misses n (NoMemory want) text = Misses n text
TroubleTold Misses n NoCell text = text ≡ unserved_text n NoCell

module _ (K : Kind) {S P R : Type 0} (m : P → K.Level) (C : Criterion) (spells : List ℕ → P → Type 0) (shown : P → List ℕ) (width : ℕ) where
  -- a line is served by a desk for frames of this width; something is told in its place where there is no memory for it
  abbrev pub LineServed : (ℕ → List ℕ → Type 0) → Desk S P R → Desk S P R → ℕ → Result Asked Trouble → List ℕ → Type 0
  LineServed Misses before after n r text =
      (s : Setting) (h : History K.Level) → s.width ≡ width → After K m C before s h
      → (h' : History K.Level) × Served Misses (Celled K m C spells shown s) h n r h' text × After K m C after s h'

  -- lines are served by it, up to one that asks for a new cell; something is told in place of those that there is no memory for
  abbrev pub LinesServed : Cut → (ℕ → List ℕ → Type 0) → Desk S P R → ℕ → List (List ℕ) → List ℕ → Option Start → Type 0
  LinesServed cut Misses before n lines text next =
      (s : Setting) (h : History K.Level) → s.width ≡ width → After K m C before s h
      → Lines cut (Served Misses (Celled K m C spells shown s)) h n lines text next
