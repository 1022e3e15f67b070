use Rattle.cell.proofs.Promised.{reach_kept}
use Rattle.cell.proofs.laws.reach_kept.Goals as goal

pub returns : goal.returns
returns g c = reach_kept g.S.Pixel.Level.kind g.S.Selector.Rule.criterion
