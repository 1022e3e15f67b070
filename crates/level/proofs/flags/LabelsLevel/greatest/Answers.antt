use Rattle.std.proofs.Common.{refl, lit<}
use Rattle.level.proofs.Masked.{all_set}
use Rattle.level.proofs.flags.LabelsLevel.greatest.Goals as goal

pub returns-clause-meant : goal.returns-clause-meant
returns-clause-meant c = all_set 12 4095 refl (lit< tt)
