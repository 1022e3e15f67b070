use Rattle.recipe.proofs.Settling.{settles_law}
use Rattle.recipe.proofs.laws.settling_holds.Goals as goal

pub returns : goal.returns
returns c = settles_law
