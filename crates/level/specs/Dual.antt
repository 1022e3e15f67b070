-- The kind with its order reversed: what holds of meets in it holds of joins in the other.
use Rattle.std.specs.Prelude.{◌≡◌, ℕ, ◌-◌, ◌≤◌, true}
use Rattle.std.proofs.Common.{ap, ◌∙◌, arith}
use Rattle.level.specs.Kind.{Kind}

-- order reversed, meet and join exchanged, least and greatest exchanged, rank r at top - r, negation the same
abbrev pub dual : Kind → Kind
dual K = record {
  Level = K.Level;
  ◌⊑◌ = λ a b. K.◌⊑◌ b a;
  least = K.greatest;
  greatest = K.least;
  meet = K.join;
  join = K.meet;
  negation = K.negation;
  ranked = K.ranked;
  top = K.top;
  rank = λ a. K.top - K.rank a;
  at = λ r. K.at (K.top - r);
  reflexive = K.reflexive;
  antisymmetric = λ a b p q. K.antisymmetric a b q p;
  transitive = λ a b c p q. K.transitive c b a q p;
  above_least = K.below_greatest;
  below_greatest = K.above_least;
  meet_left = K.join_left;
  meet_right = K.join_right;
  meet_most = K.join_least;
  join_left = K.meet_left;
  join_right = K.meet_right;
  join_least = K.meet_most;
  turns = λ a b p. K.turns b a p;
  twice = K.twice;
  top_some = K.top_some;
  top_most = K.top_most;
  rank_at = λ e r p. omega (arith, K.rank_at e (K.top - r) (omega arith));
  at_rank = λ e a. let h = K.rank_top e a in let d : K.top - (K.top - K.rank a) ≡ K.rank a = omega arith in ap K.at d ∙ K.at_rank e a;
  rank_top = λ e a. omega arith;
  rank_up = λ e a b p. omega (arith, K.rank_up e b a p);
  rank_down = λ e a b p. K.rank_down e b a (omega (arith, K.rank_top e a, K.rank_top e b));
  rank_negation = λ e a. omega (arith, K.rank_negation e a);
}

-- turned twice a kind is itself: all but the ranks computes, and the ranks are the same where there are any
module _ (K : Kind) (e : K.ranked ≡ true) where
  pub dual_rank : (a : K.Level) → (dual (dual K)).rank a ≡ K.rank a
  dual_rank a = omega (arith, K.rank_top e a)

  pub dual_at : (r : ℕ) → r ≤ K.top → (dual (dual K)).at r ≡ K.at r
  dual_at r p = let d : K.top - (K.top - r) ≡ r = omega arith in ap K.at d
