-- The text of an answer.
use Rattle.std.specs.Prelude.{ℕ, List, [], ◌∷◌, ◌++◌, Ok, Err, vec_items, codes, decimal, Result}
use Rattle.report.specs.Texts.{verdict_text}
use Rattle.commands.specs.Commands.{unread_text}
use Rattle.spelling.specs.Texts.{rows_text}
use Rattle.transcripts.specs.declared.reply.Reply.{Reply}
use Rattle.transcripts.specs.declared.reply.Reply.TheVariants.{Told, Laid, Done, Image, Cleared}
use Rattle.transcripts.specs.declared.reply.Trouble.{Trouble}
use Rattle.transcripts.specs.declared.reply.Trouble.TheVariants.{Unread, NotText, NoBytes, NoLevels, TooLong, NoMemory, NoCell}

-- why a line is not served
abbrev pub trouble_text : Trouble → List ℕ
trouble_text (Unread fault) = unread_text fault
trouble_text NotText = codes "not text"
trouble_text NoBytes = codes "no bytes in hexadecimal digits"
trouble_text NoLevels = codes "no levels of the cell's kind"
trouble_text TooLong = codes "more levels than can be served"
trouble_text (NoMemory want) = codes "no memory for it"
trouble_text NoCell = codes "no cell yet"

-- a line that is not served is told by its number
abbrev pub unserved_text : ℕ → Trouble → List ℕ
unserved_text line trouble = codes "line " ++ (decimal line ++ (codes ": " ++ (trouble_text trouble ++ (10 ∷ []))))

-- a reply as one line, an image as a line for each row
abbrev pub reply_text : {L : Type 0} → (L → List ℕ) → ℕ → Reply L → List ℕ
reply_text text width (Told verdict) = verdict_text verdict ++ (10 ∷ [])
reply_text text width Laid = codes "laid\n"
reply_text text width (Done n) = codes "done " ++ (decimal n.done ++ (codes " left " ++ (decimal n.left ++ (10 ∷ []))))
reply_text text width (Image image) = rows_text text width (vec_items image) ++ (10 ∷ [])
reply_text text width Cleared = codes "cleared\n"

-- what a line gets: the cell's reply, or why it is not served
abbrev pub answer_text : {L : Type 0} → (L → List ℕ) → ℕ → ℕ → Result (Reply L) Trouble → List ℕ
answer_text text width line (Ok reply) = reply_text text width reply
answer_text text width line (Err trouble) = unserved_text line trouble
