use Rattle.recipe.proofs.Mirroring.{mirror_law}
use Rattle.recipe.proofs.laws.mirror_holds.Goals as goal

pub returns : goal.returns
returns c = mirror_law
