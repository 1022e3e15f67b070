use Rattle.std.proofs.Common.{length, refl}
use Rattle.cell.specs.declared.calls.Phase.TheVariants.{Running}
use Rattle.cell.proofs.Behinds.{open_at, in_state, taken_by}
use Rattle.cell.proofs.calls.Cell.take.Goals as goal

pub returns : goal.returns
returns g c =
    let K = g.S.Pixel.Level.kind in
    let m = g.S.Pixel.Level.meaning in
    let C = g.S.Selector.Rule.criterion in
    let cell = c.args.self.now in
    let e = c.in-Some.open.extent in
    let r = c.in-Running.run' in
    let now = open_at cell.open c.in-Some.open (Running r) c.in-Some.is c.in-Running.is in
    let out = c.read.new.out in
    record {
      happens = λ s h b.
          taken_by K m C s e cell.block.now h r out (length c.args.out.now) c.places-places.result c.read.auto.out c.places-places.ensures.value
          c.if-out-places.false c.if-run.false c.read.ensures
          (in_state K m C s e cell.block.now h cell.open _ now b);
      same = refl;
      block = refl;
      refused = tt;
      output = tt;
    }
