use Rattle.std.proofs.Common.{◌∷◌, ◌++◌, ◌∙◌, ap₂}
use Rattle.spelling.proofs.Spelled.{made_map}
use Rattle.spelling.proofs.kinds.PairWritten.show.Goals as goal

pub returns : goal.returns
returns g c = made_map c.format.result (λ s e. e ∙ ap₂ (λ x y. x ++ 47 ∷ y) c.in_ok-first.ensures c.in_ok-second.ensures) c.format.ensures.ok
