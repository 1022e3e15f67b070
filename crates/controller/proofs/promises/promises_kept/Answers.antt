use Rattle.std.proofs.Common.{rules}
use Rattle.controller.proofs.Promising.{marked, mirrored_runs, reached}
use Rattle.controller.proofs.promises.promises_kept.Goals as goal

pub returns : goal.returns
returns g c =
    let K = g.S.Pixel.Level.kind in
    let C = g.S.Selector.Rule.criterion in
    record {
      marks = marked K C (search rules);
      mirror = mirrored_runs K C (search rules);
      reach = reached K C (search rules) (search rules);
    }
