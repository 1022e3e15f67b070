-- What a script prints: the replies to its lines, each after the lines before it.
use Rattle.std.specs.Prelude.{◌≡◌, ℕ, ◌+◌, ◌⊎◌, List, [], ◌∷◌, ◌++◌, Some, None, Ok, Err, codes, IsUtf8, MatchBool, Option, Result, nat_le}
use Rattle.level.specs.Kind.{Kind}
use Rattle.rule.specs.Criterion.{Criterion}
use Rattle.cell.specs.Histories.{History, Setting, setting}
use Rattle.commands.specs.declared.command.Making.{Making}
use Rattle.commands.specs.declared.command.Unread.{Unread}
use Rattle.commands.specs.Commands.{Asked, Asks, nothing, note, cell, put}
use Rattle.spelling.specs.Words.{Cut}
use Rattle.transcripts.specs.declared.reply.Reply.{Reply}
use Rattle.transcripts.specs.declared.reply.Trouble.{Trouble}
use Rattle.transcripts.specs.declared.reply.Trouble.TheVariants.{Unread as Unreadable, NotText, NoCell, TooLong}
use Rattle.transcripts.specs.declared.line.Start.{Start}
use Rattle.transcripts.specs.Replies.{Replies, most}
use Rattle.transcripts.specs.Texts.{answer_text, unserved_text}

-- a line as it is read, with a trouble where it cannot be
abbrev pub readable : Result Asked Unread → Result Asked Trouble
readable (Ok asked) = Ok asked
readable (Err fault) = Err (Unreadable fault)

-- what a line of bytes asks for, whose words part by this cut; it has to be text
abbrev pub LineRead : Cut → List ℕ → Result Asked Trouble → Type 0
LineRead cut line r =
    ((IsUtf8 line → ⊥) × (r ≡ Err NotText)) ⊎ (IsUtf8 line × ((x : Result Asked Unread) × Asks cut line x × (r ≡ readable x)))

-- by whether a line that was read asks for a new cell
abbrev pub ByCell : Result Asked Trouble → (Making → Type 0) → Type 0 → Type 0
ByCell (Ok (cell making)) new other = new making
ByCell (Ok nothing) new other = other
ByCell (Ok (note text)) new other = other
ByCell (Ok (put p)) new other = other
ByCell (Err trouble) new other = other

-- a line that was read asks for no new cell
abbrev pub AsksNoCell : Result Asked Trouble → Type 0
AsksNoCell r = ByCell r (λ making. ⊥) (Unit {0})

module _ {State : Type 0} (Serves : State → ℕ → Result Asked Trouble → State → List ℕ → Type 0) where
  -- a line is served, and then the others
  pub record Onward (Rest : State → List ℕ → Type 0) (before : State) (n : ℕ) (r : Result Asked Trouble) (text : List ℕ) : Type 0 where
    pub after : State
    pub first : List ℕ
    pub rest : List ℕ
    pub serves : Serves before n r after first
    pub others : Rest after rest
    pub all : text ≡ first ++ rest

module _ (cut : Cut) {State : Type 0} (Serves : State → ℕ → Result Asked Trouble → State → List ℕ → Type 0) where
  -- lines from number n on are served one by one, up to one that asks for a new cell
  abbrev pub Lines : State → ℕ → List (List ℕ) → List ℕ → Option Start → Type 0
  Lines state n [] text next = (text ≡ []) × (next ≡ None)
  Lines state n (line ∷ rest) text next =
      (r : Result Asked Trouble) × LineRead cut line r
      × ByCell r (λ making. (text ≡ []) × (next ≡ Some (record { line = n; making = making })))
      (Onward Serves (λ after t. Lines after (n + 1) rest t next) state n r text)

-- without a cell every call is in trouble
abbrev pub Bare : Unit {0} → ℕ → Result Asked Trouble → Unit {0} → List ℕ → Type 0
Bare before n (Err trouble) after text = text ≡ unserved_text n trouble
Bare before n (Ok nothing) after text = text ≡ []
Bare before n (Ok (note u)) after text = text ≡ u ++ (10 ∷ [])
Bare before n (Ok (cell making)) after text = text ≡ []
Bare before n (Ok (put p)) after text = text ≡ unserved_text n NoCell

module _ (K : Kind) {P : Type 0} (m : P → K.Level) (C : Criterion) (spells : List ℕ → P → Type 0) (shown : P → List ℕ) (s : Setting) where
  -- a line is served by a cell with this history behind it
  abbrev pub Celled : History K.Level → ℕ → Result Asked Trouble → History K.Level → List ℕ → Type 0
  Celled h n (Err trouble) h' text = (h' ≡ h) × (text ≡ unserved_text n trouble)
  Celled h n (Ok nothing) h' text = (h' ≡ h) × (text ≡ [])
  Celled h n (Ok (note u)) h' text = (h' ≡ h) × (text ≡ u ++ (10 ∷ []))
  Celled h n (Ok (cell making)) h' text = (h' ≡ h) × (text ≡ [])
  Celled h n (Ok (put p)) h' text =
      (answer : Result (Reply P) Trouble) × Replies K m C spells s h p h' answer × (text ≡ answer_text shown s.width n answer)

-- the size and the block that a cell is asked for
abbrev pub asked_setting : Making → Setting
asked_setting making = setting making.width making.height making.levels

-- lines are served, and this stands in front of their text
pub record Headed (served : List ℕ → Option Start → Type 0) (head text : List ℕ) (next : Option Start) : Type 0 where
  pub rest : List ℕ
  pub lines : served rest next
  pub all : text ≡ head ++ rest

module _ (Misses : ℕ → List ℕ → Type 0) where
  -- a line is served; or there is no memory for it, something is told in its place, and nothing has changed
  abbrev pub Served : {State : Type 0} → (State → ℕ → Result Asked Trouble → State → List ℕ → Type 0) → State → ℕ → Result Asked Trouble → State → List ℕ → Type 0
  Served serves before n r after text = serves before n r after text ⊎ ((after ≡ before) × Misses n text)

module _ (cut : Cut) (Misses : ℕ → List ℕ → Type 0) where
  -- something is told in place of a line, and the lines after it find no cell
  pub record Missed (start : Start) (lines : List (List ℕ)) (text : List ℕ) (next : Option Start) : Type 0 where
    pub head : List ℕ
    pub misses : Misses start.line head
    pub others : Headed (Lines cut (Served Misses Bare) tt (start.line + 1) lines) head text next

  -- a new cell is made and serves the lines after its own; one with too many levels, or with more than memory has, is not, and they find no cell
  abbrev pub Session : (K : Kind) {P : Type 0} → (P → K.Level) → Criterion → (List ℕ → P → Type 0) → (P → List ℕ) → Start → List (List ℕ) → List ℕ → Option Start → Type 0
  Session K m C spells shown start lines text next =
      Missed start lines text next
      ⊎ MatchBool (nat_le start.making.levels most)
      (Headed (Lines cut (Served Misses (Celled K m C spells shown (asked_setting start.making))) [] (start.line + 1) lines) (codes "made\n") text next)
      (Headed (Lines cut (Served Misses Bare) tt (start.line + 1) lines) (unserved_text start.line TooLong) text next)
