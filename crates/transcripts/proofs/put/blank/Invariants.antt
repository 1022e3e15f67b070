use Rattle.std.proofs.Common.{◌≡◌, map, replicate, vec_items, vec_len}
use Rattle.transcripts.proofs.put.blank.Given as goal

abbrev pub invariant-loop-i : goal.invariant-loop-i
invariant-loop-i g l = (vec_len l.levels ≡ l._i) × (map g.L.Level.meaning (vec_items l.levels) ≡ replicate l._i g.L.Level.kind.least)
