use Rattle.std.proofs.Common.{◌≡◌, ℕ, ◌<◌, ◌≤◌, get_or}
use Rattle.steps.proofs.planes.negate.Given as goal

abbrev pub invariant-loop-level : goal.invariant-loop-level
invariant-loop-level g l =
    let m = g.L.Level.meaning in
    record {
      done : (k : ℕ) (d : _) → k < l.level-index → m (get_or l.level-items k d) ≡ g.L.Level.kind.negation (m (get_or l.initial.level-items k d));
      rest : (k : ℕ) (d : _) → l.level-index ≤ k → get_or l.level-items k d ≡ get_or l.initial.level-items k d;
    }
