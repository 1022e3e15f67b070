use Rattle.std.proofs.Common.{◌≡◌, max, string_bytes}
use Rattle.spelling.proofs.Spelled.{Parted}
use Rattle.spelling.proofs.levels.rows.Given as goal

abbrev pub invariant-loop-i : goal.invariant-loop-i
invariant-loop-i g l =
    (l.i-iterator.iter.size ≡ max l.width 1)
    × Parted g.L.Written.text l.width l.levels l.i-iterator.iter.rest.now l.i-iterator.count (string_bytes l.text)
