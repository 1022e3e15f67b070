use Rattle.std.proofs.Common.{refl, lit<}
use Rattle.level.proofs.Masked.{negated}
use Rattle.level.proofs.flags.LabelsLevel.negation.Goals as goal

pub returns-clause-meant : goal.returns-clause-meant
returns-clause-meant c = negated 12 4095 refl (lit< tt) _
