use Rattle.rule.proofs.Choosing.{choice}
use Rattle.rule.proofs.select.choice_laws.Goals as goal

pub returns : goal.returns
returns g c = choice g.R.Rule.criterion
