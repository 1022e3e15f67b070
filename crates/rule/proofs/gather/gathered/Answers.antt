use Rattle.std.proofs.Common.{◌≡◌, ◌<◌, ◌≤◌, length, sym, ap, ◌∙◌, subst}
use Rattle.rule.specs.Ranks.{numbers, more}
use Rattle.rule.specs.Windows.{numbers_more}
use Rattle.rule.specs.Views.{seen, Gathered}
use Rattle.rule.proofs.gather.gathered.Goals as goal

pub returns-in-Some-clause-ranks : goal.returns-in-Some-clause-ranks
returns-in-Some-clause-ranks c rs h l =
    let w = c.in-Some.window in
    let r = c.args.rank in
    let e : seen w ≡ numbers rs = subst (λ o. Gathered o rs) c.in-Some.is h in
    let some : 1 ≤ length rs = subst (λ v. 1 ≤ v.count) e w.some in
    let few = subst (λ n. n < 25) (ap (λ v. v.count) (sym e)) l in
    c.with.ensures.more few ∙ ap (λ v. more v r) e ∙ numbers_more rs r some
