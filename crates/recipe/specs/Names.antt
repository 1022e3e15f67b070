-- The names of the steps, as listings print them.
use Rattle.std.specs.Prelude.{ℕ, List, codes}
use Rattle.recipe.specs.declared.step.Step.{Step}
use Rattle.recipe.specs.declared.step.Step.TheVariants.{Frame, Negate, Erode, Dilate, Open, Close, Meet, Join, MeanLow, MeanHigh, SelectLow, SelectHigh}

abbrev pub name_of : Step → List ℕ
name_of Frame = codes "frame"
name_of Negate = codes "negate"
name_of (Erode e) = codes "erode"
name_of (Dilate e) = codes "dilate"
name_of (Open e) = codes "open"
name_of (Close e) = codes "close"
name_of Meet = codes "meet"
name_of Join = codes "join"
name_of MeanLow = codes "mean-low"
name_of MeanHigh = codes "mean-high"
name_of (SelectLow e) = codes "select-low"
name_of (SelectHigh e) = codes "select-high"
