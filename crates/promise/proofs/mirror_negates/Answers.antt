use Rattle.promise.proofs.Mirrors.{mirror_law, mirror_steps_law}
use Rattle.promise.proofs.mirror_negates.Goals as goal

pub returns : goal.returns
returns g c =
    record { recipes = mirror_law g.L.Level.kind g.R.Rule.criterion; steps = mirror_steps_law g.L.Level.kind g.R.Rule.criterion }
