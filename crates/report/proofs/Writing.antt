-- Lines written one after another.
use Rattle.std.proofs.Common.{◌≡◌, ℕ, ◌+◌, ◌<◌, List, [], ◌∷◌, ◌++◌, length, get_or, take, sym, ap, ◌∙◌, append_assoc, append-nil}
use Rattle.std.proofs.lemmas.List.{take_more}
use Rattle.std.proofs.Output.{has_written_append, has_written_of_eq}
use Rattle.std.specs.declared.fmt.Formatter.{Formatter}
use Rattle.std.specs.Fmt.{HasWritten}
use Rattle.report.specs.declared.line.Line.{Line}
use Rattle.report.specs.Texts.{line_text, lines_text}

lines_text_push : (ls : List Line) (l : Line) → lines_text (ls ++ (l ∷ [])) ≡ lines_text ls ++ (line_text l ++ (10 ∷ []))
lines_text_push [] l = append-nil (line_text l ++ (10 ∷ []))
lines_text_push (k ∷ ks) l =
    ap (λ (bs : List ℕ). (line_text k ++ (10 ∷ [])) ++ bs) (lines_text_push ks l)
    ∙ sym (append_assoc (line_text k ++ (10 ∷ [])) (lines_text ks) (line_text l ++ (10 ∷ [])))

pub line_put :
    {W : Type 0} (took : W → List ℕ → W → Type 0) (f g h : Formatter W) (ls : List Line) (i : ℕ) (d : Line) → i < length ls →
    HasWritten took f (lines_text (take i ls)) g → HasWritten took g (line_text (get_or ls i d) ++ (10 ∷ [])) h →
    HasWritten took f (lines_text (take (i + 1) ls)) h
line_put took f g h ls i d less p q =
    let all = ap lines_text (take_more ls i d less) ∙ lines_text_push (take i ls) (get_or ls i d) in
    has_written_of_eq took f _ _ h (sym all) (has_written_append took f _ g _ h p q)
