use Rattle.std.proofs.Common.{◌≡◌, ℕ, ◌+◌, List, drop, vec_items}
use Rattle.transcripts.specs.Transcripts.{Bare, Served}
use Rattle.transcripts.proofs.Lining.{SoFar}
use Rattle.transcripts.proofs.serve.Serving.bare_lines.Given as goal

abbrev pub invariant-loop-i : goal.invariant-loop-i
invariant-loop-i g l =
    ((l.self.lines.now ≡ l.initial.self.lines.now) × (l.self.teller.ghost_name ≡ l.initial.self.teller.ghost_name) × (l.rest ≡ drop l.from l.initial.self.lines.now))
    × ((text : List ℕ) × g.T.Teller.tells l.initial.self.teller.now l.self.teller.now text
    × SoFar g.T.Words.Parting.cut (Served g.T.Teller.misses Bare) vec_items l.initial.self.lines.now tt l.from tt (l.from + l.i) text)
