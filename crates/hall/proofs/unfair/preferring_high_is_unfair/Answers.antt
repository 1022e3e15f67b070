use Rattle.std.proofs.Common.{[], ◌∷◌, sym, ◌∙◌, arith}
use borrow.Author.Tests.{clash}
use Rattle.rule.specs.Windows.{ranks_single}
use Rattle.hall.proofs.unfair.preferring_high_is_unfair.Goals as goal

pub returns : goal.returns
returns c = λ C high.
    clash (sym (high _ _) ∙ C.fair 1 (omega arith) (1 ∷ []) (0 ∷ []) (ranks_single 1 1 (omega arith)) (ranks_single 1 0 (omega arith)) ∙ high _ _)
