use Rattle.cell.proofs.Promised.{mark_law}
use Rattle.cell.proofs.laws.marks_kept.Goals as goal

pub returns : goal.returns
returns g c = mark_law g.S.Pixel.Level.kind g.S.Selector.Rule.criterion
