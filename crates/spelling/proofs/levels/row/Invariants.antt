use Rattle.std.proofs.Common.{◌≡◌, take, string_bytes}
use Rattle.spelling.specs.Texts.{row_text}
use Rattle.spelling.proofs.levels.row.Given as goal

abbrev pub invariant-loop-i : goal.invariant-loop-i
invariant-loop-i g l = string_bytes l.text ≡ row_text g.L.Written.text (take l.i l.levels)
