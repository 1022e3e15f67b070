use Rattle.rule.specs.Windows.{shaped}
use Rattle.rule.specs.Flipped.{numbers_flipped}
use Rattle.rule.proofs.gather.window_laws.Goals as goal

pub returns : goal.returns
returns c = record { shaped = shaped; flipped = numbers_flipped }
