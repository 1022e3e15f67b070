use Rattle.std.proofs.Common.{refl, lit<}
use Rattle.level.proofs.Masked.{met}
use Rattle.level.proofs.flags.LabelsLevel.meet.Goals as goal

pub returns-clause-meant : goal.returns-clause-meant
returns-clause-meant c = met 12 4095 refl (lit< tt) _ _
