-- What holds of the choice by any rule.
use Rattle.std.proofs.Common.{refl}
use Rattle.rule.specs.Criterion.{Criterion}
use Rattle.rule.specs.Choice.{Choice}
use Rattle.rule.proofs.Order.{won, to_win}
use Rattle.rule.proofs.Chosen.{nearest, nearest_one, exists, one_value, selected, between, within}
use Rattle.rule.proofs.Turning.{flips_best, flips}

pub choice : (C : Criterion) → Choice C
choice C = record {
  won = won C;
  to_win = to_win C;
  nearest = λ side w. nearest C side 0 w;
  nearest_one = λ side w. nearest_one C side 0 w;
  none = λ _ _. refl;
  exists = exists C;
  one_value = one_value C;
  selected = selected C;
  between = between C;
  within = within C;
  flips_best = flips_best C;
  flips = flips C;
}
