use Rattle.std.proofs.Common.{◌≡◌, ◌%◌, length, vec_items}
use Rattle.spelling.specs.Texts.{hex_bytes}
use Rattle.spelling.proofs.Spelled.{after}
use Rattle.spelling.proofs.levels.bytes.Given as goal

abbrev pub invariant-loop-pair : goal.invariant-loop-pair
invariant-loop-pair l =
    (l.pair-iterator.size ≡ 2)
    × (length l.pair-iterator.rest.now % 2 ≡ length l.digits % 2)
    × (hex_bytes l.digits ≡ after (vec_items l.bytes) (hex_bytes l.pair-iterator.rest.now))
