use Rattle.rule.proofs.Lifted.{laws}
use Rattle.rule.proofs.rule_laws.Goals as goal

pub returns : goal.returns
returns g c = laws g.R.Rule.criterion
