-- The pair of two kinds: unranked, everything part by part.
use Rattle.std.specs.Prelude.{◌≡◌, ℕ, true, false}
use Rattle.std.proofs.Common.{ap₂, arith}
use Rattle.level.specs.Kind.{Kind}

-- a kind that is not ranked owes no law of ranks
pub unranked : {P : Type 0} → false ≡ true → P
unranked e = let z : ◌≡◌ {A = ℕ} 0 1 = cc in absurd (omega arith)

abbrev pub pair : Kind → Kind → Kind
pair A B = record {
  Level = A.Level × B.Level;
  ◌⊑◌ = λ a b. (A.◌⊑◌ a.0 b.0) × (B.◌⊑◌ a.1 b.1);
  least = (A.least, B.least);
  greatest = (A.greatest, B.greatest);
  meet = λ a b. (A.meet a.0 b.0, B.meet a.1 b.1);
  join = λ a b. (A.join a.0 b.0, B.join a.1 b.1);
  negation = λ a. (A.negation a.0, B.negation a.1);
  ranked = false;
  top = 0;
  rank = λ _. 0;
  at = λ _. (A.least, B.least);
  reflexive = λ a. (A.reflexive a.0, B.reflexive a.1);
  antisymmetric = λ a b p q. ap₂ (λ x y. (x, y)) (A.antisymmetric _ _ p.0 q.0) (B.antisymmetric _ _ p.1 q.1);
  transitive = λ a b c p q. (A.transitive _ _ _ p.0 q.0, B.transitive _ _ _ p.1 q.1);
  above_least = λ a. (A.above_least a.0, B.above_least a.1);
  below_greatest = λ a. (A.below_greatest a.0, B.below_greatest a.1);
  meet_left = λ a b. (A.meet_left _ _, B.meet_left _ _);
  meet_right = λ a b. (A.meet_right _ _, B.meet_right _ _);
  meet_most = λ a b c p q. (A.meet_most _ _ _ p.0 q.0, B.meet_most _ _ _ p.1 q.1);
  join_left = λ a b. (A.join_left _ _, B.join_left _ _);
  join_right = λ a b. (A.join_right _ _, B.join_right _ _);
  join_least = λ a b c p q. (A.join_least _ _ _ p.0 q.0, B.join_least _ _ _ p.1 q.1);
  turns = λ a b p. (A.turns _ _ p.0, B.turns _ _ p.1);
  twice = λ a. ap₂ (λ x y. (x, y)) (A.twice _) (B.twice _);
  top_some = unranked;
  top_most = unranked;
  rank_at = λ e r p. unranked e;
  at_rank = λ e a. unranked e;
  rank_top = λ e a. unranked e;
  rank_up = λ e a b p. unranked e;
  rank_down = λ e a b p. unranked e;
  rank_negation = λ e a. unranked e;
}
