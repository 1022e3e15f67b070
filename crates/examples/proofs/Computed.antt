-- The rows follow from the definitions by computing.
use Rattle.std.proofs.Common.{sym, refl, lit<}
use Rattle.level.specs.Chain.{same_rank}
use Rattle.level.proofs.Masked.{met, joined, negated}
use Rattle.rule.specs.Criterion.{Criterion}
use Rattle.recipe.specs.Elements.{gather}
use Rattle.examples.specs.Rows.{FoldedRows, SelectedRows, OtherLevels}
use Rattle.examples.specs.Sheets.{Listed}

pub folded_rows : (C : Criterion) → FoldedRows C
unfolding gather
folded_rows C = record {
  eroded = refl;
  dilated = refl;
  mean_low = refl;
  mean_high = refl;
  opened = refl;
  closed = refl;
  between = refl;
  smoothed = refl;
  eroded_past = refl;
  dilated_past = refl;
  opened_past = refl;
  closed_past = refl;
  open_close = refl;
  close_open = refl;
}

pub selected_rows : SelectedRows
unfolding gather
selected_rows = record { variance_low = refl; variance_high = refl; range_low = refl; range_high = refl; border = refl; turned = refl }

pub other_levels : OtherLevels
other_levels = record {
  height_low = refl;
  height_high = refl;
  label_meet = refl;
  label_join = refl;
  label_negation = refl;
  lowest_negation = same_rank _ _ refl;
  highest_negation = same_rank _ _ refl;
  label_meet_is = sym (met 12 0x0FFF refl (lit< tt) 0x00F0 0x0033);
  label_join_is = sym (joined 12 0x0FFF refl (lit< tt) 0x00F0 0x0033);
  label_negation_is = sym (negated 12 0x0FFF refl (lit< tt) 0x00F3);
}

pub listed : Listed
unfolding gather
listed = record { first = refl; second = refl; third = refl; fourth = refl; fifth = refl; sixth = refl; last = refl; sheet = refl }
