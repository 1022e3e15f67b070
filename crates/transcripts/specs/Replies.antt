-- What a cell replies to a script's calls: to each what the rules define after the history so far.
use Rattle.std.specs.Prelude.{◌≡◌, ℕ, List, ◌∷◌, map, Ok, Err, vec_items, MatchBool, Option, Result, MatchOption, nat_le}
use Rattle.level.specs.Kind.{Kind}
use Rattle.rule.specs.Criterion.{Criterion}
use Rattle.recipe.specs.Plans.{Answer, given, refused}
use Rattle.report.specs.declared.verdict.Verdict.TheVariants.{Admitted, Refused}
use Rattle.cell.specs.Histories.{Call, Good, Admit, Lay, Steps, Take, Clear, event, History, Setting, defined}
use Rattle.desk.specs.declared.desk.Desk.{Desk}
use Rattle.desk.specs.Desks.{After}
use Rattle.commands.specs.Commands.{Put, admit, lay, step, take, clear}
use Rattle.spelling.specs.Spellings.{Read, Spell}
use Rattle.spelling.specs.Texts.{hex_bytes}
use Rattle.spelling.specs.Words.{words}
use Rattle.transcripts.specs.declared.reply.Reply.{Reply}
use Rattle.transcripts.specs.declared.reply.Reply.TheVariants.{Told, Laid, Done, Image, Cleared}
use Rattle.transcripts.specs.declared.reply.Trouble.{Trouble}
use Rattle.transcripts.specs.declared.reply.Trouble.TheVariants.{Unread, NotText, NoBytes, NoLevels, TooLong, NoMemory, NoCell}

-- the most levels that a block or an output may have here, more than a cell can use
abbrev pub most : ℕ
most = 1048576

module _ (K : Kind) {P : Type 0} (m : P → K.Level) where
  -- the answer is an image of these levels
  abbrev pub Pictures : List K.Level → Result (Reply P) Trouble → Type 0
  Pictures levels (Ok (Image image)) = map m (vec_items image) ≡ levels
  Pictures levels (Ok (Told verdict)) = ⊥
  Pictures levels (Ok Laid) = ⊥
  Pictures levels (Ok (Done n)) = ⊥
  Pictures levels (Ok Cleared) = ⊥
  Pictures levels (Err trouble) = ⊥

  -- the answer tells what a call to the cell gives
  abbrev pub Tells : (c : Call K.Level) → Answer (Good c) → Result (Reply P) Trouble → Type 0
  Tells c (refused r) answer = answer ≡ Ok (Told (Refused r))
  Tells (Admit bytes) (given sheet) answer = answer ≡ Ok (Told (Admitted sheet))
  Tells (Lay f) (given u) answer = answer ≡ Ok Laid
  Tells (Steps n) (given p) answer = answer ≡ Ok (Done (record { done = p.0; left = p.1 }))
  Tells (Take n) (given image) answer = Pictures image answer
  Tells Clear (given u) answer = answer ≡ Ok Cleared

module _ (K : Kind) {P : Type 0} (m : P → K.Level) (C : Criterion) (spells : List ℕ → P → Type 0) (s : Setting) where
  -- the call is put, and told is what is defined after this history
  pub record Calls (h : History K.Level) (c : Call K.Level) (h' : History K.Level) (answer : Result (Reply P) Trouble) : Type 0 where
    pub grown : h' ≡ event c (defined K C s h c) ∷ h
    pub tells : Tells K m c (defined K C s h c) answer

  -- no call is put
  pub record Stays (trouble : Trouble) (h h' : History K.Level) (answer : Result (Reply P) Trouble) : Type 0 where
    pub same : h' ≡ h
    pub tells : answer ≡ Err trouble

  -- what is answered to a call of the script
  abbrev pub Replies : History K.Level → Put → History K.Level → Result (Reply P) Trouble → Type 0
  Replies h (admit text) h' answer = MatchOption (hex_bytes text) (Stays NoBytes h h' answer) (λ bytes. Calls h (Admit bytes) h' answer)
  Replies h (lay text) h' answer =
      (levels : Option (List P)) × Read (Spell spells) (words text) levels
      × MatchOption levels (Stays NoLevels h h' answer) (λ frame. Calls h (Lay (map m frame)) h' answer)
  Replies h (step count) h' answer = Calls h (Steps count) h' answer
  Replies h (take length) h' answer = MatchBool (nat_le length most) (Calls h (Take length) h' answer) (Stays TooLong h h' answer)
  Replies h clear h' answer = Calls h Clear h' answer

-- what holds where memory is wanting for a line, and what holds else
abbrev pub ByMemory : {P : Type 0} → Result (Reply P) Trouble → Type 0 → Type 0 → Type 0
ByMemory (Ok reply) wanting other = other
ByMemory (Err (Unread fault)) wanting other = other
ByMemory (Err NotText) wanting other = other
ByMemory (Err NoBytes) wanting other = other
ByMemory (Err NoLevels) wanting other = other
ByMemory (Err TooLong) wanting other = other
ByMemory (Err (NoMemory want)) wanting other = wanting
ByMemory (Err NoCell) wanting other = other

-- a call of the script is answered by a desk, whatever history is behind it; where memory is wanting the desk stays as it was
abbrev pub Replied : (K : Kind) {S P R : Type 0} → (P → K.Level) → Criterion → (List ℕ → P → Type 0) → Desk S P R → Desk S P R → Put → Result (Reply P) Trouble → Type 0
Replied K m C spells before after put answer =
    ByMemory answer (after ≡ before)
    ((s : Setting) (h : History K.Level) → After K m C before s h → (h' : History K.Level) × Replies K m C spells s h put h' answer × After K m C after s h')
