use Rattle.std.proofs.Common.{◌≡◌, ℕ, ◌<◌, max, List, ◌++◌, length}
use Rattle.spelling.proofs.Spelled.{Parted, turn}
use Rattle.transcripts.proofs.tell.tell_rows.Given as goal

abbrev pub invariant-loop-row : goal.invariant-loop-row
invariant-loop-row g l =
    (l.row-iterator.size ≡ max l.width 1)
    × ((n : ℕ) × (shown : List ℕ) × Parted g.L.Written.text l.width l.image l.row-iterator.rest.now n shown × (n ≡ 0 → 0 < length l.row-iterator.rest.now)
    × g.T.Teller.tells l.initial.teller l.teller (shown ++ turn n))
