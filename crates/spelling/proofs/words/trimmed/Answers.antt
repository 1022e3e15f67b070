use Rattle.std.proofs.Common.{rules}
use Rattle.spelling.proofs.Parting.{trimmed_at}
use Rattle.spelling.proofs.words.trimmed.Goals as goal

pub returns : goal.returns
returns c = search (rules, trimmed_at)
