use Rattle.rule.specs.Variance.{least_variance}
use Rattle.rule.specs.Range.{least_range}
use Rattle.examples.proofs.Computed.{folded_rows, selected_rows, other_levels}
use Rattle.examples.proofs.worked_rows.Goals as goal

pub returns : goal.returns
returns c = record { variance = folded_rows least_variance; range = folded_rows least_range; selected = selected_rows; others = other_levels }
