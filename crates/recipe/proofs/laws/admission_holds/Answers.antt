use Rattle.recipe.proofs.Admitting.{admission_law}
use Rattle.recipe.proofs.laws.admission_holds.Goals as goal

pub returns : goal.returns
returns c = admission_law
