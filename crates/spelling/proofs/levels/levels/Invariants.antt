use Rattle.std.proofs.Common.{vec_items}
use Rattle.std.specs.Str.Iter.{split_ascii_whitespace_text}
use Rattle.spelling.proofs.Reading.{Reading}
use Rattle.spelling.proofs.levels.levels.Given as goal

abbrev pub invariant-loop-word : goal.invariant-loop-word
invariant-loop-word g l = Reading g.L.Written.spells l.text (split_ascii_whitespace_text l.word-iterator) (vec_items l.levels)
