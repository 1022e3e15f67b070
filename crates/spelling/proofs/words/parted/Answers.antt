use Rattle.std.proofs.Common.{◌≡◌, drop, ◌∙◌, subst, rules}
use Rattle.spelling.specs.Words.{behind}
use Rattle.spelling.proofs.Parting.{unpadded_from}
use Rattle.spelling.proofs.words.parted.Goals as goal

pub returns-clause-rest : goal.returns-clause-rest
returns-clause-rest c =
    let back = c.split_at.ensures.back ∙ subst (λ t. drop c.word_end.result t ≡ behind t) c.as_bytes.ensures.value c.word_end.ensures.rest in
    rw (← back) (search (rules, unpadded_from))
