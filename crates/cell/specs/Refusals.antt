-- What each fault of a call tells: the refusal's number, its layer, and the record where a single one is at fault.
use Rattle.std.specs.Prelude.{ℕ, None}
use Rattle.recipe.specs.declared.fault.Layer.TheVariants.{Cell}
use Rattle.recipe.specs.declared.fault.Refusal.{Refusal}
use Rattle.recipe.specs.Refusals.{refusal, plan_refusal}
use Rattle.cell.specs.declared.fault.CellFault.{CellFault}
use Rattle.cell.specs.declared.fault.CellFault.TheVariants.{Shut, RunOpen, NoRecipe, NoRun, RecordsLeft, SmallBlock, WrongLength, Recipe}

-- a refusal of the cell's own layer
abbrev pub of_cell : ℕ → Refusal
of_cell n = refusal n Cell None

abbrev pub cell_refusal : CellFault → Refusal
cell_refusal Shut = of_cell 1
cell_refusal RunOpen = of_cell 2
cell_refusal NoRecipe = of_cell 3
cell_refusal NoRun = of_cell 4
cell_refusal RecordsLeft = of_cell 5
cell_refusal SmallBlock = of_cell 19
cell_refusal WrongLength = of_cell 20
cell_refusal (Recipe f) = plan_refusal f
