-- Marks that the sheet leaves out because they are false, each refuted on a row of greys.
use Rattle.std.specs.Prelude.{ℕ}
use Rattle.level.specs.declared.side.Side.TheVariants.{Low}
use Rattle.level.specs.Delivered.{greys}
use Rattle.rule.specs.Range.{least_range}
use Rattle.recipe.specs.Elements.{bits}
use Rattle.steps.specs.Images.{Size}
use Rattle.steps.specs.Selections.{selected}
use Rattle.promise.specs.Operators.{BelowFrame, OrderKept, Settles, Within}
use Rattle.promise.specs.Morphology.{dilated, opened}

-- the size of a row
abbrev pub row_of : ℕ → Size
row_of n = record { width = n; height = 1 }

pub record Limits : Type 0 where
  -- W of an open by an element without the centre, here the place to the right
  pub open_off_centre : Within greys (row_of 1) 2 (opened greys (row_of 1) (bits 0x2000)) → ⊥
  -- S of an open by one element and then by another
  pub open_by_two : Settles greys (row_of 3) (λ f. opened greys (row_of 3) (bits 0x3000) (opened greys (row_of 3) (bits 0x1400) f)) → ⊥
  -- B of a dilation
  pub dilate_below : BelowFrame greys (row_of 2) (dilated greys (row_of 2) (bits 0x3000)) → ⊥
  -- K of a selection
  pub select_keeps : OrderKept greys (row_of 3) (selected greys (row_of 3) least_range Low (bits 0x3800)) → ⊥
