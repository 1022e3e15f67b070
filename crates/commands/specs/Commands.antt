-- What a script's lines ask for.
use Rattle.std.specs.Prelude.{◌≡◌, ℕ, List, length, Ok, Err, codes, MatchBool, Result, ◌==◌, slice_index}
use Rattle.spelling.specs.Spellings.{Decimal}
use Rattle.spelling.specs.Words.{Cut, trimmed}
use Rattle.commands.specs.declared.command.CallName.{CallName}
use Rattle.commands.specs.declared.command.CallName.TheVariants.{Cell as CellCall, Admit as AdmitCall, Lay as LayCall, Step as StepCall, Take as TakeCall, Clear as ClearCall}
use Rattle.commands.specs.declared.command.Command.{Command}
use Rattle.commands.specs.declared.command.Command.TheVariants.{Nothing, Note, Cell, Put as PutCall}
use Rattle.commands.specs.declared.command.Call.{Call}
use Rattle.commands.specs.declared.command.Call.TheVariants.{Admit, Lay, Step, Take, Clear}
use Rattle.commands.specs.declared.command.KindName.{KindName}
use Rattle.commands.specs.declared.command.KindName.TheVariants.{Grey, Height, Mask, Labels, GreyLabels}
use Rattle.commands.specs.declared.command.Making.{Making}
use Rattle.commands.specs.declared.command.RuleName.{RuleName}
use Rattle.commands.specs.declared.command.RuleName.TheVariants.{Variance, Range}
use Rattle.commands.specs.declared.command.Unread.{Unread}
use Rattle.commands.specs.declared.command.Unread.TheVariants.{NoSuchCall, NoSuchKind, NoSuchRule, NotANumber, WordTooMany}

-- the message for a line that cannot be read
abbrev pub unread_text : Unread → List ℕ
unread_text NoSuchCall = codes "no such call"
unread_text NoSuchKind = codes "no such kind of level"
unread_text NoSuchRule = codes "no such rule"
unread_text NotANumber = codes "no number that can be served"
unread_text WordTooMany = codes "a word too many"

-- how a script names a call
abbrev pub name_of_call : CallName → List ℕ
name_of_call CellCall = codes "cell"
name_of_call AdmitCall = codes "admit"
name_of_call LayCall = codes "lay"
name_of_call StepCall = codes "step"
name_of_call TakeCall = codes "take"
name_of_call ClearCall = codes "clear"

-- how a script names a kind of level
abbrev pub kind_name : KindName → List ℕ
kind_name Grey = codes "grey"
kind_name Height = codes "height"
kind_name Mask = codes "mask"
kind_name Labels = codes "labels"
kind_name GreyLabels = codes "grey/labels"

-- how a script names a rule
abbrev pub rule_name : RuleName → List ℕ
rule_name Variance = codes "variance"
rule_name Range = codes "range"

-- a text is read as what it spells; one that spells nothing is refused with this fault
abbrev pub Reads : {A : Type 0} → (List ℕ → A → Type 0) → Unread → List ℕ → Result A Unread → Type 0
Reads spells fault text (Ok x) = spells text x
Reads {A} spells fault text (Err e) = (e ≡ fault) × ((x : A) → spells text x → ⊥)

-- a word is read as what it names
abbrev pub Names : {A : Type 0} → (A → List ℕ) → Unread → List ℕ → Result A Unread → Type 0
Names name = Reads (λ word x. word ≡ name x)

-- a text is read as a number that the machine can serve
abbrev pub Counts : List ℕ → Result ℕ Unread → Type 0
Counts = Reads (Decimal 64) NotANumber

-- what follows when a part is read, or else its fault
abbrev pub Onward : {A B : Type 0} → Result A Unread → (A → Result B Unread → Type 0) → Result B Unread → Type 0
Onward (Ok x) rest r = rest x r
Onward (Err e) rest r = r ≡ Err e

-- a part is read, and then the rest
abbrev pub Then : {A B : Type 0} → (Result A Unread → Type 0) → (A → Result B Unread → Type 0) → Result B Unread → Type 0
Then {A} part rest r = (x : Result A Unread) × part x × Onward x rest r

-- a call to a cell, with its text as bytes
pub data Put : Type 0 where
  admit : List ℕ → Put
  lay : List ℕ → Put
  step : ℕ → Put
  take : ℕ → Put
  clear : Put

-- what a line asks for, with its text as bytes
pub data Asked : Type 0 where
  nothing : Asked
  note : List ℕ → Asked
  cell : Making → Asked
  put : Put → Asked

abbrev pub put_by : Call → Put
put_by (Admit text) = admit text.now
put_by (Lay text) = lay text.now
put_by (Step count) = step count
put_by (Take length) = take length
put_by Clear = clear

abbrev pub asked : Command → Asked
asked Nothing = nothing
asked (Note text) = note text.now
asked (Cell making) = cell making
asked (PutCall call) = put (put_by call)

abbrev pub asked_by : {E : Type 0} → Result Command E → Result Asked E
asked_by (Ok command) = Ok (asked command)
asked_by (Err e) = Err e

-- what words ask for that part by this cut
module _ (cut : Cut) where
  -- a cell by the words after `cell`: kind, rule, width, height, and the rest for the levels of its block
  abbrev pub AsksCell : List ℕ → Result Making Unread → Type 0
  AsksCell text =
      Then (Names kind_name NoSuchKind (cut.front text)) (λ kind.
      Then (Names rule_name NoSuchRule (cut.front (cut.further text))) (λ rule.
      Then (Counts (cut.front (cut.further (cut.further text)))) (λ width.
      Then (Counts (cut.front (cut.further (cut.further (cut.further text))))) (λ height.
      Then (Counts (cut.further (cut.further (cut.further (cut.further text))))) (λ levels r.
      r ≡ Ok (record { kind = kind; rule = rule; width = width; height = height; levels = levels }))))))

  -- a call by the text after its name
  abbrev pub AsksCall : CallName → List ℕ → Result Asked Unread → Type 0
  AsksCall CellCall text = Then (AsksCell text) (λ making r. r ≡ Ok (cell making))
  AsksCall AdmitCall text = λ r. r ≡ Ok (put (admit text))
  AsksCall LayCall text = λ r. r ≡ Ok (put (lay text))
  AsksCall StepCall text = Then (Counts text) (λ count r. r ≡ Ok (put (step count)))
  AsksCall TakeCall text = Then (Counts text) (λ length r. r ≡ Ok (put (take length)))
  AsksCall ClearCall text = λ r. MatchBool (length text == 0) (r ≡ Ok (put clear)) (r ≡ Err WordTooMany)

  -- a call by its name, which is the first word, and the text after it
  abbrev pub AsksNamed : List ℕ → Result Asked Unread → Type 0
  AsksNamed text = Then (Names name_of_call NoSuchCall (cut.front text)) (λ call. AsksCall call (cut.further text))

  -- a line with white space at its ends let go: nothing, a note after #, or a call
  abbrev pub AsksTrimmed : List ℕ → Result Asked Unread → Type 0
  AsksTrimmed text r =
      MatchBool (length text == 0) (r ≡ Ok nothing)
      (MatchBool (slice_index text 0 == 35) (r ≡ Ok (note text))
      (AsksNamed text r))

  -- what a line asks for
  abbrev pub Asks : List ℕ → Result Asked Unread → Type 0
  Asks line = AsksTrimmed (trimmed line)
