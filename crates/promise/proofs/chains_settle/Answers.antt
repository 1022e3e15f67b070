use Rattle.promise.proofs.Chains.{chain_law}
use Rattle.promise.proofs.chains_settle.Goals as goal

pub returns : goal.returns
returns g c = chain_law g.L.Level.kind
