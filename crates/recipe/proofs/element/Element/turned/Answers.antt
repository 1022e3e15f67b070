use Rattle.std.proofs.Common.{◌/◌, ap, ◌∙◌}
use Rattle.recipe.specs.Elements.{bits}
use Rattle.recipe.proofs.Turning.{turned_bits}
use Rattle.recipe.proofs.element.Element.turned.Goals as goal

pub returns-clause-offsets : goal.returns-clause-offsets
returns-clause-offsets c b l = ap (λ n. bits (n / 128) b) c.reverse_bits.ensures ∙ turned_bits c.args.self.bits b l
