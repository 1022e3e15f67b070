-- The twelve steps by what they do to a stack of planes. Most come in a low and a high form, which are dual.
use Rattle.std.specs.Prelude.{ℕ, Bool, true, false}
use Rattle.level.specs.declared.side.Side.{Side}
use Rattle.level.specs.declared.side.Side.TheVariants.{Low, High}
use Rattle.level.specs.Sides.{opposite}
use Rattle.recipe.specs.declared.element.Element.{Element}
use Rattle.recipe.specs.declared.step.Step.{Step}
use Rattle.recipe.specs.declared.step.Step.TheVariants.{Frame, Negate, Erode, Dilate, Open, Close, Meet, Join, MeanLow, MeanHigh, SelectLow, SelectHigh}

-- a change of the top plane: folding is erosion or dilation, filtering is opening or closing
pub data Change : Type 0 where
  negation : Change
  folding : Side → Element → Change
  filtering : Side → Element → Change
  selecting : Side → Element → Change

-- one plane made of the two top ones: bounding is meet or join
pub data Merge : Type 0 where
  bounding : Side → Merge
  averaging : Side → Merge

-- what a step does to the stack
pub data Form : Type 0 where
  start : Form
  change : Change → Form
  merge : Merge → Form

abbrev pub form : Step → Form
form Frame = start
form Negate = change negation
form (Erode e) = change (folding Low e)
form (Dilate e) = change (folding High e)
form (Open e) = change (filtering Low e)
form (Close e) = change (filtering High e)
form Meet = merge (bounding Low)
form Join = merge (bounding High)
form MeanLow = merge (averaging Low)
form MeanHigh = merge (averaging High)
form (SelectLow e) = change (selecting Low e)
form (SelectHigh e) = change (selecting High e)

-- how many planes it wants on the stack
abbrev pub wants : Form → ℕ
wants start = 0
wants (change c) = 1
wants (merge m) = 2

-- it averages or selects, and so reads ranks
abbrev pub reads_ranks : Form → Bool
reads_ranks start = false
reads_ranks (change negation) = false
reads_ranks (change (folding d e)) = false
reads_ranks (change (filtering d e)) = false
reads_ranks (change (selecting d e)) = true
reads_ranks (merge (bounding d)) = false
reads_ranks (merge (averaging d)) = true

-- it puts one plane more on the stack
abbrev pub adds : Form → Bool
adds start = true
adds (change c) = false
adds (merge m) = false

-- the mirror exchanges the low and the high form of every step
abbrev pub mirror_step : Step → Step
mirror_step Frame = Frame
mirror_step Negate = Negate
mirror_step (Erode e) = Dilate e
mirror_step (Dilate e) = Erode e
mirror_step (Open e) = Close e
mirror_step (Close e) = Open e
mirror_step Meet = Join
mirror_step Join = Meet
mirror_step MeanLow = MeanHigh
mirror_step MeanHigh = MeanLow
mirror_step (SelectLow e) = SelectHigh e
mirror_step (SelectHigh e) = SelectLow e

abbrev pub mirror_change : Change → Change
mirror_change negation = negation
mirror_change (folding d e) = folding (opposite d) e
mirror_change (filtering d e) = filtering (opposite d) e
mirror_change (selecting d e) = selecting (opposite d) e

abbrev pub mirror_merge : Merge → Merge
mirror_merge (bounding d) = bounding (opposite d)
mirror_merge (averaging d) = averaging (opposite d)

abbrev pub mirror_form : Form → Form
mirror_form start = start
mirror_form (change c) = change (mirror_change c)
mirror_form (merge m) = merge (mirror_merge m)
