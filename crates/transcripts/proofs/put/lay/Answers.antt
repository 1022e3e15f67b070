use Rattle.std.proofs.Common.{map, Some, Ok, vec_items, sym, refl, ap, ◌∙◌, subst}
use Rattle.std.specs.Option.{option_map}
use Rattle.recipe.specs.Plans.{given, refused}
use Rattle.cell.specs.Histories.{Lay}
use Rattle.cell.specs.Refusals.{cell_refusal}
use Rattle.spelling.specs.Spellings.{Read, Spell}
use Rattle.spelling.specs.Words.{words}
use Rattle.transcripts.proofs.Calling.{comes}
use Rattle.transcripts.proofs.put.lay.Goals as goal

pub returns-in-Ok : goal.returns-in-Ok
returns-in-Ok g c = λ s h b.
    let spells = g.S.Pixel.Written.spells in
    let read = subst (Read (Spell spells) (words c.args.text.now)) (ap (option_map vec_items) c.in-Some.is ∙ ap Some (sym c.deref.ensures.value)) c.in_ok-frame.ensures in
    let f = comes g.S.Pixel.Level.kind g.S.Pixel.Level.meaning g.S.Selector.Rule.criterion spells c.args.desk.now c.lay.new.self (Lay (map g.S.Pixel.Level.meaning c.deref.result.now)) (given tt) _ c.in-Ok.ensures refl s h b in
    (f.0, (Some c.deref.result.now, read, f.1), f.2)

pub returns : goal.returns
returns g c = λ s h b.
    let spells = g.S.Pixel.Written.spells in
    let read = subst (Read (Spell spells) (words c.args.text.now)) (ap (option_map vec_items) c.in-Some.is ∙ ap Some (sym c.deref.ensures.value)) c.in_ok-frame.ensures in
    let f = comes g.S.Pixel.Level.kind g.S.Pixel.Level.meaning g.S.Selector.Rule.criterion spells c.args.desk.now c.lay.new.self (Lay (map g.S.Pixel.Level.meaning c.deref.result.now)) (refused (cell_refusal c.in-Err.fault)) _ c.in-Err.ensures (ap Ok c.refused.ensures) s h b in
    (f.0, (Some c.deref.result.now, read, f.1), f.2)
