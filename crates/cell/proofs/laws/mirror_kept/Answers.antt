use Rattle.cell.proofs.Mirrored.{mirror_law}
use Rattle.cell.proofs.laws.mirror_kept.Goals as goal

pub returns : goal.returns
returns g c = mirror_law g.S.Pixel.Level.kind g.S.Selector.Rule.criterion
