use Rattle.std.proofs.Common.{◌≡◌, ℕ, ◌+◌, List, drop, vec_items}
use Rattle.cell.specs.Histories.{History, Setting}
use Rattle.desk.specs.Desks.{After, Tidy}
use Rattle.transcripts.specs.Transcripts.{Celled, Served}
use Rattle.transcripts.proofs.Lining.{SoFar}
use Rattle.transcripts.proofs.serve.Serving.celled_lines.Given as goal

abbrev pub invariant-loop-i : goal.invariant-loop-i
invariant-loop-i g l =
    let K = g.S.Pixel.Level.kind in
    let m = g.S.Pixel.Level.meaning in
    let C = g.S.Selector.Rule.criterion in
    (Tidy K m C l.desk × (l.self.lines.now ≡ l.initial.self.lines.now) × (l.self.teller.ghost_name ≡ l.initial.self.teller.ghost_name) × (l.rest ≡ drop l.from l.initial.self.lines.now))
    × ((text : List ℕ) × g.T.Teller.tells l.initial.self.teller.now l.self.teller.now text
    × ((s : Setting) (h : History K.Level) → s.width ≡ l.width → After K m C l.initial.desk s h
    → (h' : History K.Level) × After K m C l.desk s h'
    × SoFar g.T.Words.Parting.cut (Served g.T.Teller.misses (Celled K m C g.S.Pixel.Written.spells g.S.Pixel.Written.text s)) vec_items l.initial.self.lines.now h l.from h' (l.from + l.i) text))
