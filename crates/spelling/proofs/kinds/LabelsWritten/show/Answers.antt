use Rattle.std.proofs.Common.{◌≡◌, ap, ◌∙◌, subst, arith, string_bytes, IfSome}
use Rattle.std.specs.Fmt.{styled_digits_output}
use Rattle.spelling.proofs.Shown.{flags_shown}
use Rattle.spelling.proofs.Spelled.{made_map}
use Rattle.spelling.proofs.kinds.LabelsWritten.show.Goals as goal

pub returns : goal.returns
returns c =
    let a = ap (styled_digits_output c.in_radix.result) c.laid_out.ensures ∙ flags_shown _ _ c.args.self.flags c.in_radix.ensures (omega arith) (omega arith) in
    made_map c.format.result (λ s m. subst (λ o. IfSome o (λ bs. string_bytes s ≡ bs)) a m) c.format.ensures.ok
