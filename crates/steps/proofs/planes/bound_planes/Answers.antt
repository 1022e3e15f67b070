use Rattle.std.proofs.Common.{rules}
use Rattle.steps.specs.Images.{bound}
use Rattle.steps.specs.Planes.{size_of}
use Rattle.steps.proofs.Merging.{merged_by}
use Rattle.steps.proofs.planes.bound_planes.Goals as goal

pub returns : goal.returns
returns g c =
    merged_by g.L.Level.kind g.L.Level.meaning (size_of c.args.extent) (bound g.L.Level.kind g.W.Way.side) (λ a b r did. search rules) c.merge_planes.ensures
