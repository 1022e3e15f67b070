use Rattle.std.proofs.Common.{Some, None, sym, subst, arith}
use Rattle.std.proofs.lemmas.Str.Pattern.{split_parts}
use Rattle.spelling.specs.Spellings.{Joined, Read}
use Rattle.spelling.proofs.Spelled.{joined_parts}
use Rattle.spelling.proofs.kinds.PairWritten.read.Goals as goal

pub returns-in_err-first : goal.returns-in_err-first
returns-in_err-first g c =
    subst (Read (λ t x. Joined g.A.Written.spells g.B.Written.spells t x.first x.second) c.args.word.now) (sym c.from_residual.ensures)
    (λ x j. joined_parts g.A.Written.spells g.B.Written.spells c.args.word.now None c.in_err-first.ensures.cases x.first x.second j)

pub returns-in_err-read : goal.returns-in_err-read
returns-in_err-read g c =
    subst (Read (λ t x. Joined g.A.Written.spells g.B.Written.spells t x.first x.second) c.args.word.now) (sym c.from_residual-in_err-read.ensures)
    (λ x j. c.in_err-read.ensures x.first (joined_parts g.A.Written.spells g.B.Written.spells c.args.word.now (Some (c.in_ok-first.first, c.in_ok-first.second)) c.in_ok-first.ensures.cases x.first x.second j).0)

pub returns-in_err-read-2 : goal.returns-in_err-read-2
returns-in_err-read-2 g c =
    subst (Read (λ t x. Joined g.A.Written.spells g.B.Written.spells t x.first x.second) c.args.word.now) (sym c.from_residual-in_err-read-2.ensures)
    (λ x j. c.in_err-read-2.ensures x.second (joined_parts g.A.Written.spells g.B.Written.spells c.args.word.now (Some (c.in_ok-first.first, c.in_ok-first.second)) c.in_ok-first.ensures.cases x.first x.second j).1)

pub returns : goal.returns
returns g c =
    let parts = split_parts 47 c.args.word.now (Some (c.in_ok-first.first, c.in_ok-first.second)) c.in_ok-first.ensures.cases (omega arith) in
    record {
      before = c.in_ok-first.first.now;
      after = c.in_ok-first.second.now;
      parts = parts.0;
      whole = parts.1;
      left = c.in_ok-read.ensures;
      right = c.in_ok-read-2.ensures;
    }
