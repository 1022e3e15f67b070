use Rattle.std.proofs.Common.{refl, lit<}
use Rattle.std.proofs.lemmas.Bool.Decides.{Decides-eqb, Decides-like}
use Rattle.level.proofs.Masked.{included, includes}
use Rattle.level.proofs.flags.LabelsLevel.at_most.Goals as goal

pub returns : goal.returns
returns c =
    let a = c.args.self.flags in
    let b = c.args.other.flags in
    Decides-like _ (included 12 4095 refl (lit< tt) a b) (includes 12 4095 refl (lit< tt) a b) (Decides-eqb _ _)
