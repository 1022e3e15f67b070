use Rattle.std.proofs.Common.{refl, lit<}
use Rattle.level.proofs.Masked.{joined}
use Rattle.level.proofs.flags.LabelsLevel.join.Goals as goal

pub returns-clause-meant : goal.returns-clause-meant
returns-clause-meant c = joined 12 4095 refl (lit< tt) _ _
