-- What a new `Window` owes, in the order of its ghost fields: all of it follows from `Made`.
use Rattle.std.proofs.Common.{◌*◌, ◌≤◌}
use Rattle.rule.specs.Ranks.{Numbers, Made}
use Rattle.rule.specs.Windows.{made_shaped}

abbrev pub Kept : Numbers → Type 0
Kept w = record {
  made : Made w;
  some : 1 ≤ w.count;
  few : w.count ≤ 25;
  ordered : w.lowest ≤ w.highest;
  ranked : w.highest ≤ 65535;
  summed : w.sum ≤ w.count * 65535;
  squared : w.squares ≤ w.count * (65535 * 65535);
  spread : w.sum * w.sum ≤ w.count * w.squares;
}

pub kept : (w : Numbers) → Made w → Kept w
kept w m =
    let b = made_shaped w m in
    record { made = m; some = b.some; few = b.few; ordered = b.ordered; ranked = b.ranked; summed = b.summed; squared = b.squared; spread = b.spread }
