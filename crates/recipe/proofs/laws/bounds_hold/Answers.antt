use Rattle.recipe.proofs.Bounding.{bounds_law}
use Rattle.recipe.proofs.laws.bounds_hold.Goals as goal

pub returns : goal.returns
returns c = bounds_law
