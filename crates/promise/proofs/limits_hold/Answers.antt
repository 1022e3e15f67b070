use Rattle.promise.proofs.Limited.{limits}
use Rattle.promise.proofs.limits_hold.Goals as goal

pub returns : goal.returns
returns c = limits
