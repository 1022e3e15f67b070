use Rattle.cell.proofs.Sound.{image_law}
use Rattle.cell.proofs.laws.image_kept.Goals as goal

pub returns : goal.returns
returns g c = image_law g.S.Pixel.Level.kind g.S.Selector.Rule.criterion
