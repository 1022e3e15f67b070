use Rattle.recipe.specs.Elements.{offsets}
use Rattle.steps.proofs.Changing.{made_filtered}
use Rattle.steps.proofs.morphology.filter.Goals as goal

pub returns : goal.returns
returns g c =
    made_filtered g.W.Way.side g.W.Back.Way.side (offsets c.args.element) _ g.met.W.TwoWay.against c.turned-turned.ensures.offsets c.fold_plane.ensures c.fold_plane-2.ensures
