use native.Mathlib.Omega.{arith}
use Rattle·level·specs.Chain.{same-rank}
use Rattle·level·proofs.chains.ChainLevel.least.Needs as need

pub returns : need.returns
returns g c = same-rank _ _ (omega arith)
