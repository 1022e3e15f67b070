use Rattle.std.proofs.Common.{◌≡◌, map, length, is_some, IfSome, vec_len, Ok, sym, ap, ◌∙◌, subst}
use Rattle.std.specs.Vec.{with_items}
use Rattle.std.proofs.lemmas.List.{with_items_is}
use Rattle.recipe.specs.Plans.{given}
use Rattle.cell.specs.Histories.{Take}
use Rattle.desk.specs.Desks.{ComesAbout}
use Rattle.transcripts.specs.declared.reply.Reply.TheVariants.{Image}
use Rattle.transcripts.proofs.Calling.{takes}
use Rattle.transcripts.proofs.put.take.Goals as goal

pub returns-in-Ok : goal.returns-in-Ok
returns-in-Ok g c = λ s h b.
    let K = g.S.Pixel.Level.kind in
    let m = g.S.Pixel.Level.meaning in
    let C = g.S.Selector.Rule.criterion in
    let image = map m c.take.new.out in
    let few = sym c.in_ok-out.ensures.few ∙ ap is_some c.in-Some.is in
    let long : length c.deref_mut.result.now ≡ c.args.length =
    c.deref_mut.ensures.len ∙ subst (λ o. IfSome o (λ v. vec_len v ≡ c.args.length)) c.in-Some.is c.in_ok-out.ensures.long in
    let about = subst (λ n. ComesAbout K m C c.args.desk.now c.take.new.self (Take n) (given image)) long c.in-Ok.ensures in
    takes K m C g.S.Pixel.Written.spells c.args.desk.now c.take.new.self c.args.length few image (Ok (Image (with_items c.in-Some.out c.take.new.out))) about (ap (map m) (with_items_is c.in-Some.out c.take.new.out (c.take.auto.out ∙ c.deref_mut.ensures.len))) s h b
