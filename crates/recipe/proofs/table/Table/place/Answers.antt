use Rattle.std.proofs.Common.{not, ◌&&◌, ltb, leb, sym, ap, ◌∙◌, ap₂}
use Rattle.std.proofs.lemmas.Bool.{le-ltb}
use Rattle.recipe.specs.Plans.{given}
use Rattle.recipe.proofs.Refusing.{pass}
use Rattle.recipe.proofs.Stacks.{top_down_length}
use Rattle.recipe.proofs.table.Table.place.Goals as goal

pub returns-clause-answer : goal.returns-clause-answer
returns-clause-answer c =
    let t = c.args.self.now in
    let deep = top_down_length t.entries t.depth in
    pass _ _ _ _ (ap (λ b. b && not c.args.ranked) (sym c.wants_ranks.ensures) ∙ c.if-wants_ranks-ranked.false)
    (pass _ _ _ _ (ap₂ ltb deep (sym c.wanted.ensures) ∙ le-ltb _ _ c.if-self-wanted.false)
    (pass _ _ _ _ (ap₂ (λ b d. b && leb 4 d) (sym c.adds_plane.ensures) deep ∙ c.if-adds_plane-self.false)
    (ap given c.grow.ensures)))
