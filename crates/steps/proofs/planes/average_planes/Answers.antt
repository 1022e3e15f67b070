use Rattle.std.proofs.Common.{rules}
use Rattle.steps.specs.Recipes.{mean}
use Rattle.steps.specs.Planes.{size_of}
use Rattle.steps.proofs.Merging.{merged_by}
use Rattle.steps.proofs.planes.average_planes.Goals as goal

pub returns : goal.returns
returns g c =
    merged_by g.L.Level.kind g.L.Level.meaning (size_of c.args.extent) (mean g.L.Level.kind c.args.side) (λ a b r did. search rules) c.merge_planes.ensures
