use Rattle.std.proofs.Common.{map, sym, refl, ◌∙◌}
use Rattle.std.proofs.lemmas.List.{length-map}
use Rattle.cell.specs.declared.calls.Phase.TheVariants.{Ready}
use Rattle.cell.proofs.Behinds.{open_at, in_state, misfit, laid_in}
use Rattle.cell.proofs.calls.Cell.lay.Goals as goal

pub returns-then-frame-places : goal.returns-then-frame-places
returns-then-frame-places g c =
    let K = g.S.Pixel.Level.kind in
    let m = g.S.Pixel.Level.meaning in
    let C = g.S.Selector.Rule.criterion in
    let cell = c.args.self.now in
    let e = c.in-Some.open.extent in
    let p = c.in-Ready.plan in
    let now = open_at cell.open c.in-Some.open (Ready p) c.in-Some.is c.in-Ready.is in
    let frame = c.args.frame.now in
    record {
      happens = λ s h b.
          in_state K m C s e cell.block.now _ _ cell.open (sym now)
          (misfit K m C s e cell.block.now h p (map m frame) (λ e. c.if-frame-places.true (sym (length-map frame m) ∙ (e ∙ sym c.places.ensures.value)))
          (in_state K m C s e cell.block.now h cell.open _ now b));
      same = refl;
      block = refl;
      refused = refl;
      slip = tt;
    }

pub returns-else-self-frame : goal.returns-else-self-frame
returns-else-self-frame g c =
    let K = g.S.Pixel.Level.kind in
    let m = g.S.Pixel.Level.meaning in
    let C = g.S.Selector.Rule.criterion in
    let cell = c.args.self.now in
    let e = c.in-Some.open.extent in
    let p = c.in-Ready.plan in
    let now = open_at cell.open c.in-Some.open (Ready p) c.in-Some.is c.in-Ready.is in
    let frame = c.args.frame.now in
    record {
      happens = λ s h b.
          laid_in K m C s e cell.block.now h p c.start.result frame c.put.new.block (c.if-frame-places.false ∙ c.places.ensures.value)
          c.start.ensures.plan c.start.ensures.done c.start.ensures.depth c.put.ensures
          (in_state K m C s e cell.block.now h cell.open _ now b);
      same = refl;
      block = c.put.ensures;
      refused = tt;
      slip = refl;
    }
