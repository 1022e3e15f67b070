use Rattle.std.proofs.Common.{◌≡◌, true, false, rules, tests, sym, subst}
use Rattle.std.proofs.lemmas.Iterator.{IsFirst-from_position, YieldsList-from_slice}
use Rattle.std.specs.Char.{is_ascii_whitespace}
use Rattle.spelling.specs.Words.{WordEnds}
use Rattle.spelling.proofs.Parting.{word_found}
use Rattle.spelling.proofs.words.word_end.Goals as goal

pub returns : goal.returns
returns c =
    let first = IsFirst-from_position _ _ c.position.result (λ b. is_ascii_whitespace b ≡ true) (λ b. is_ascii_whitespace b ≡ false) c.position.ensures.ran (YieldsList-from_slice c.args.text.now cc) (λ x q k. search (rules, tests)) (λ x q k. search (rules, tests)) in
    subst (WordEnds c.args.text.now) (sym c.unwrap_or.ensures) (word_found c.args.text.now c.position.result first)
