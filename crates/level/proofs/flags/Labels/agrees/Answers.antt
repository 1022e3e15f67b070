use Rattle.std.proofs.Common.{refl, lit<}
use Rattle.std.proofs.lemmas.Bool.Decides.{Decides-eqb, Decides-like}
use Rattle.level.proofs.Masked.{masked_same, same_masked, same_flags, flags_same}
use Rattle.level.proofs.flags.Labels.agrees.Goals as goal

pub returns : goal.returns
returns c =
    let a = c.args.self.flags in
    let b = c.args.other.flags in
    let by_flags = Decides-like _ (same_masked 12 4095 refl (lit< tt) a b) (masked_same 12 4095 refl (lit< tt) a b) (Decides-eqb _ _) in
    record { flags = by_flags; level = Decides-like _ (same_flags 12 a b) (flags_same 12 a b) by_flags }
