use Rattle.examples.proofs.Computed.{listed}
use Rattle.examples.proofs.worked_sheet.Goals as goal

pub returns : goal.returns
returns c = listed
