use Rattle.std.proofs.Common.{◌≡◌, ℕ, List, length, vec_items}
use Rattle.transcripts.proofs.Scripting.{Printing, left_from}
use Rattle.transcripts.proofs.serve.Serving.run.Given as goal

abbrev pub invariant-loop-next : goal.invariant-loop-next
invariant-loop-next g l =
    (l.self.teller.ghost_name ≡ l.initial.self.teller.ghost_name)
    × (l.self.lines.now ≡ l.fn.self.lines.now)
    × ((text : List ℕ) × g.T.Teller.tells l.fn.self.teller.now l.self.teller.now text × Printing g.T.Words.Parting.cut g.T.Teller.misses vec_items l.fn.self.lines.now text l.next)

abbrev pub decreases-loop-next : goal.decreases-loop-next
decreases-loop-next g l = left_from (length l.fn.self.lines.now) l.next
