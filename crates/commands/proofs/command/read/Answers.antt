use Rattle.std.proofs.Common.{◌≡◌, ℕ, Bool, false, eqb, List, length, get_or, Ok, MatchBool, Result, sym, ◌∙◌, subst, arith, ne_eqb}
use borrow.Author.Tests.{clash}
use Rattle.std.proofs.lemmas.Str.Pattern.{starts_char}
use Rattle.spelling.specs.Words.{Cut}
use Rattle.commands.specs.Commands.{Asked, AsksNamed, AsksTrimmed, asked_by, note, nothing}
use Rattle.commands.specs.declared.command.Unread.{Unread}
use Rattle.commands.proofs.command.read.Goals as goal

by_name : (cut : Cut) (text : List ℕ) (r : Result Asked Unread) → eqb (length text) 0 ≡ false → eqb (get_or text 0 0) 35 ≡ false → AsksNamed cut text r → AsksTrimmed cut text r
by_name cut text r some no_note named =
    let inner : Bool → Type 0 = λ b. MatchBool b (r ≡ Ok (note text)) (AsksNamed cut text r) in
    subst (λ b. MatchBool b (r ≡ Ok nothing) (inner (eqb (get_or text 0 0) 35))) (sym some) (subst inner (sym no_note) named)

pub returns : goal.returns
returns g c =
    let text = c.trimmed-line.result.now in
    let starts = starts_char 35 text c.starts_with.result c.starts_with.ensures.cases (omega arith) (omega arith) in
    let no_note : eqb (get_or text 0 0) 35 ≡ false = ne_eqb _ _ (λ e. clash (sym c.if-starts_with.false ∙ starts.1 e)) in
    let some : eqb (length text) 0 ≡ false = sym c.is_empty.ensures ∙ c.if-is_empty.false in
    let cut = g.P.Parting.cut in
    subst (λ t. AsksTrimmed cut t (asked_by c.named.result)) c.trimmed-line.ensures
    (by_name cut text (asked_by c.named.result) some no_note c.named.ensures)
