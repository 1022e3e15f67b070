-- What a whole script prints, with the kinds of level and the rules that it can name.
use Rattle.std.specs.Prelude.{◌≡◌, ℕ, ◌+◌, ◌⊎◌, Bool, cond, List, [], ◌∷◌, ◌++◌, ℤ, codes, decimal, MatchBool, Option, Result, nat_le}
use Rattle.level.specs.Kind.{Kind}
use Rattle.level.specs.Delivered.{greys, grey, heights, height, masks, mask, labels, label}
use Rattle.level.specs.Pairs.{pair}
use Rattle.level.specs.declared.flags.Labels.{Labels}
use Rattle.level.specs.declared.pairs.Pair.{Pair}
use Rattle.rule.specs.Criterion.{Criterion}
use Rattle.rule.specs.Variance.{least_variance}
use Rattle.rule.specs.Range.{least_range}
use Rattle.cell.specs.Histories.{History, Setting}
use Rattle.commands.specs.declared.command.KindName.{KindName}
use Rattle.commands.specs.declared.command.KindName.TheVariants.{Grey, Height, Mask, Labels as LabelsName, GreyLabels}
use Rattle.commands.specs.declared.command.RuleName.{RuleName}
use Rattle.commands.specs.declared.command.RuleName.TheVariants.{Variance, Range}
use Rattle.commands.specs.declared.command.Making.{Making}
use Rattle.std.specs.Fmt.{signed_decimal}
use Rattle.commands.specs.Commands.{Asked}
use Rattle.spelling.specs.Spellings.{Decimal, Flagged, Joined, Signed}
use Rattle.spelling.specs.Texts.{four_digits}
use Rattle.spelling.specs.Words.{Cut, at_white_space}
use Rattle.transcripts.specs.declared.reply.Trouble.{Trouble}
use Rattle.transcripts.specs.declared.reply.Trouble.TheVariants.{TooLong}
use Rattle.transcripts.specs.declared.line.Start.{Start}
use Rattle.transcripts.specs.Replies.{most}
use Rattle.transcripts.specs.Texts.{unserved_text}
use Rattle.transcripts.specs.Transcripts.{Bare, ByCell, Celled, LineRead, Onward, Session, asked_setting}

-- the values of a kind of level that a script names
abbrev pub PixelOf : KindName → Type 0
PixelOf Grey = ℕ
PixelOf Height = ℤ
PixelOf Mask = Bool
PixelOf LabelsName = Labels
PixelOf GreyLabels = Pair ℕ Labels

-- the kind itself
abbrev pub kind_of : KindName → Kind
kind_of Grey = greys
kind_of Height = heights
kind_of Mask = masks
kind_of LabelsName = labels
kind_of GreyLabels = pair greys labels

-- the level that a value means
abbrev pub meaning_of : (k : KindName) → PixelOf k → (kind_of k).Level
meaning_of Grey = grey
meaning_of Height = height
meaning_of Mask = mask
meaning_of LabelsName = λ l. label l.flags
meaning_of GreyLabels = λ p. (grey p.first, label p.second.flags)

-- the words that spell a value
abbrev pub SpellsOf : (k : KindName) → List ℕ → PixelOf k → Type 0
SpellsOf Grey = Decimal 8
SpellsOf Height = Signed
SpellsOf Mask = λ word x. word ≡ cond x (49 ∷ []) (48 ∷ [])
SpellsOf LabelsName = λ word x. Flagged word x.flags
SpellsOf GreyLabels = λ word x. Joined (Decimal 8) (λ w l. Flagged w l.flags) word x.first x.second

-- how a value is shown
abbrev pub shown_of : (k : KindName) → PixelOf k → List ℕ
shown_of Grey = decimal
shown_of Height = signed_decimal
shown_of Mask = λ x. cond x (49 ∷ []) (48 ∷ [])
shown_of LabelsName = λ x. four_digits x.flags
shown_of GreyLabels = λ x. decimal x.first ++ 47 ∷ four_digits x.second.flags

-- the rule that a script names
abbrev pub criterion_of : RuleName → Criterion
criterion_of Variance = least_variance
criterion_of Range = least_range

-- the cell that a script has come to, with the history behind it
pub data World : Type 0 where
  none : World
  one : (k : KindName) → RuleName → Setting → History (kind_of k).Level → World

-- a line that asks for no cell is served by the one that stands
abbrev pub StaysIn : World → ℕ → Result Asked Trouble → World → List ℕ → Type 0
StaysIn none n r w text = (w ≡ none) × Bare tt n r tt text
StaysIn (one k rule s h) n r w text =
    (h' : History (kind_of k).Level) × (w ≡ one k rule s h')
    × Celled (kind_of k) (meaning_of k) (criterion_of rule) (SpellsOf k) (shown_of k) s h n r h' text

-- a new cell, in place of any other; none where it has too many levels
abbrev pub Makes : ℕ → Making → World → List ℕ → Type 0
Makes n making w text =
    MatchBool (nat_le making.levels most) ((w ≡ one making.kind making.rule (asked_setting making) []) × (text ≡ codes "made\n"))
    ((w ≡ none) × (text ≡ unserved_text n TooLong))

-- what a line does and prints
abbrev pub Goes : World → ℕ → Result Asked Trouble → World → List ℕ → Type 0
Goes before n r after text = ByCell r (λ making. Makes n making after text) (StaysIn before n r after text)

module _ (cut : Cut) (Step : World → ℕ → Result Asked Trouble → World → List ℕ → Type 0) where
  -- what lines from number n on print, each after those before it
  abbrev pub Script : World → ℕ → List (List ℕ) → List ℕ → Type 0
  Script w n [] text = text ≡ []
  Script w n (line ∷ rest) text = (r : Result Asked Trouble) × LineRead cut line r × Onward Step (λ after t. Script after (n + 1) rest t) w n r text

-- what a script of these lines prints, whose words part at white space
abbrev pub Prints : List (List ℕ) → List ℕ → Type 0
Prints lines text = Script at_white_space Goes none 1 lines text

module _ (Misses : ℕ → List ℕ → Type 0) where
  -- what a line does and tells; or there is no memory for it, and something is told in its place
  abbrev pub GoesOrMisses : World → ℕ → Result Asked Trouble → World → List ℕ → Type 0
  GoesOrMisses before n r after text = Goes before n r after text ⊎ (ByCell r (λ making. after ≡ none) (after ≡ before) × Misses n text)

module _ (cut : Cut) (Misses : ℕ → List ℕ → Type 0) where
  -- what is told of a script of these lines
  abbrev pub ToldOf : List (List ℕ) → List ℕ → Type 0
  ToldOf lines text = Script cut (GoesOrMisses Misses) none 1 lines text

  -- the lines of a cell of this kind
  abbrev pub ServedAs : KindName → Criterion → Start → List (List ℕ) → List ℕ → Option Start → Type 0
  ServedAs k C = Session cut Misses (kind_of k) (meaning_of k) C (SpellsOf k) (shown_of k)
