-- What follows from a kind's laws, for every kind: the laws that all theory of images uses.
use Rattle.std.specs.Prelude.{◌≡◌, ℕ, ◌-◌, ◌≤◌, min, max, true, ◌⊎◌}
use Rattle.std.proofs.Common.{sym, ◌∙◌, ap, subst, inl, inr, ⊎_elim, arith}
use Rattle.std.proofs.lemmas.Bool.Decides.{leb_tells}
use Rattle.level.specs.Kind.{Kind}
use Rattle.level.specs.Dual.{dual}

-- the laws of every kind, ranked or not
pub record Laws (K : Kind) : Type 0 where
  pub same_below : (a b : K.Level) → a ≡ b → K.◌⊑◌ a b
  pub meet_commutes : (a b : K.Level) → K.meet a b ≡ K.meet b a
  pub meet_associates : (a b c : K.Level) → K.meet (K.meet a b) c ≡ K.meet a (K.meet b c)
  pub meet_itself : (a : K.Level) → K.meet a a ≡ a
  pub meet_keeps : (a b c d : K.Level) → K.◌⊑◌ a c → K.◌⊑◌ b d → K.◌⊑◌ (K.meet a b) (K.meet c d)
  pub meet_greatest : (a : K.Level) → K.meet a K.greatest ≡ a
  pub meet_least : (a : K.Level) → K.meet a K.least ≡ K.least
  pub meet_absorbs : (a b : K.Level) → K.meet a (K.join a b) ≡ a
  pub below_meet : (a b : K.Level) → K.◌⊑◌ a b → K.meet a b ≡ a
  pub meet_below : (a b : K.Level) → K.meet a b ≡ a → K.◌⊑◌ a b
  pub join_commutes : (a b : K.Level) → K.join a b ≡ K.join b a
  pub join_associates : (a b c : K.Level) → K.join (K.join a b) c ≡ K.join a (K.join b c)
  pub join_itself : (a : K.Level) → K.join a a ≡ a
  pub join_keeps : (a b c d : K.Level) → K.◌⊑◌ a c → K.◌⊑◌ b d → K.◌⊑◌ (K.join a b) (K.join c d)
  pub join_least : (a : K.Level) → K.join a K.least ≡ a
  pub join_greatest : (a : K.Level) → K.join a K.greatest ≡ K.greatest
  pub join_absorbs : (a b : K.Level) → K.join a (K.meet a b) ≡ a
  pub below_join : (a b : K.Level) → K.◌⊑◌ a b → K.join a b ≡ b
  pub join_below : (a b : K.Level) → K.join a b ≡ b → K.◌⊑◌ a b
  pub turns_back : (a b : K.Level) → K.◌⊑◌ (K.negation b) (K.negation a) → K.◌⊑◌ a b
  pub negation_apart : (a b : K.Level) → K.negation a ≡ K.negation b → a ≡ b
  pub negation_meet : (a b : K.Level) → K.negation (K.meet a b) ≡ K.join (K.negation a) (K.negation b)
  pub negation_join : (a b : K.Level) → K.negation (K.join a b) ≡ K.meet (K.negation a) (K.negation b)
  pub negation_least : K.negation K.least ≡ K.greatest
  pub negation_greatest : K.negation K.greatest ≡ K.least

-- the laws of a ranked kind
pub record RankLaws (K : Kind) : Type 0 where
  pub total : (a b : K.Level) → (K.◌⊑◌ a b) ⊎ (K.◌⊑◌ b a)
  pub rank_apart : (a b : K.Level) → K.rank a ≡ K.rank b → a ≡ b
  pub rank_least : K.rank K.least ≡ 0
  pub rank_greatest : K.rank K.greatest ≡ K.top
  pub rank_meet : (a b : K.Level) → K.rank (K.meet a b) ≡ min (K.rank a) (K.rank b)
  pub rank_join : (a b : K.Level) → K.rank (K.join a b) ≡ max (K.rank a) (K.rank b)
  pub at_keeps : (r s : ℕ) → r ≤ s → s ≤ K.top → K.◌⊑◌ (K.at r) (K.at s)
  pub negation_at : (r : ℕ) → r ≤ K.top → K.negation (K.at r) ≡ K.at (K.top - r)

-- the half about meets; the half about joins is the same of the dual kind
module _ (K : Kind) where
  equal_below : (a b : K.Level) → a ≡ b → K.◌⊑◌ a b
  equal_below a b e = subst (λ x. K.◌⊑◌ a x) e (K.reflexive a)

  swapped : (a b : K.Level) → K.◌⊑◌ (K.meet a b) (K.meet b a)
  swapped a b = K.meet_most _ _ _ (K.meet_right a b) (K.meet_left a b)

  commutes : (a b : K.Level) → K.meet a b ≡ K.meet b a
  commutes a b = K.antisymmetric _ _ (swapped a b) (swapped b a)

  keeps : (a b c d : K.Level) → K.◌⊑◌ a c → K.◌⊑◌ b d → K.◌⊑◌ (K.meet a b) (K.meet c d)
  keeps a b c d p q = K.meet_most _ _ _ (K.transitive _ _ _ (K.meet_left a b) p) (K.transitive _ _ _ (K.meet_right a b) q)

  regrouped : (a b c : K.Level) → K.◌⊑◌ (K.meet (K.meet a b) c) (K.meet a (K.meet b c))
  regrouped a b c =
      K.meet_most _ _ _ (K.transitive _ _ _ (K.meet_left _ c) (K.meet_left a b)) (keeps _ _ _ _ (K.meet_right a b) (K.reflexive c))

  back : (a b c : K.Level) → K.◌⊑◌ (K.meet a (K.meet b c)) (K.meet (K.meet a b) c)
  back a b c =
      K.meet_most _ _ _ (keeps _ _ _ _ (K.reflexive a) (K.meet_left b c)) (K.transitive _ _ _ (K.meet_right a _) (K.meet_right b c))

  associates : (a b c : K.Level) → K.meet (K.meet a b) c ≡ K.meet a (K.meet b c)
  associates a b c = K.antisymmetric _ _ (regrouped a b c) (back a b c)

  lower_met : (a b : K.Level) → K.◌⊑◌ a b → K.meet a b ≡ a
  lower_met a b p = K.antisymmetric _ _ (K.meet_left a b) (K.meet_most _ _ _ (K.reflexive a) p)

  met_lower : (a b : K.Level) → K.meet a b ≡ a → K.◌⊑◌ a b
  met_lower a b e = subst (λ x. K.◌⊑◌ x b) e (K.meet_right a b)

  met_least : (a : K.Level) → K.meet a K.least ≡ K.least
  met_least a = K.antisymmetric _ _ (K.meet_right a _) (K.above_least _)

  turned_back : (a b : K.Level) → K.◌⊑◌ (K.negation b) (K.negation a) → K.◌⊑◌ a b
  turned_back a b p = subst (λ x. K.◌⊑◌ x b) (K.twice a) (subst (λ x. K.◌⊑◌ (K.negation (K.negation a)) x) (K.twice b) (K.turns _ _ p))

  -- negation b at most c is negation c at most b
  across : (b c : K.Level) → K.◌⊑◌ (K.negation b) c → K.◌⊑◌ (K.negation c) b
  across b c p = subst (λ x. K.◌⊑◌ (K.negation c) x) (K.twice b) (K.turns _ _ p)

  negation_met : (a b : K.Level) → K.negation (K.meet a b) ≡ K.join (K.negation a) (K.negation b)
  negation_met a b =
      K.antisymmetric _ _
      (across _ _ (K.meet_most _ _ _ (across _ _ (K.join_left _ _)) (across _ _ (K.join_right _ _))))
      (K.join_least _ _ _ (K.turns _ _ (K.meet_left a b)) (K.turns _ _ (K.meet_right a b)))

  negated_least : K.negation K.least ≡ K.greatest
  negated_least = K.antisymmetric _ _ (K.below_greatest _) (subst (λ x. K.◌⊑◌ x (K.negation K.least)) (K.twice _) (K.turns _ _ (K.above_least _)))

pub laws : (K : Kind) → Laws K
laws K = record {
  same_below = equal_below K;
  meet_commutes = commutes K;
  meet_associates = associates K;
  meet_itself = λ a. lower_met K a a (K.reflexive a);
  meet_keeps = keeps K;
  meet_greatest = λ a. lower_met K a _ (K.below_greatest a);
  meet_least = met_least K;
  meet_absorbs = λ a b. lower_met K a _ (K.join_left a b);
  below_meet = lower_met K;
  meet_below = met_lower K;
  join_commutes = commutes (dual K);
  join_associates = associates (dual K);
  join_itself = λ a. lower_met (dual K) a a (K.reflexive a);
  join_keeps = λ a b c d p q. keeps (dual K) c d a b p q;
  join_least = λ a. lower_met (dual K) a _ (K.above_least a);
  join_greatest = met_least (dual K);
  join_absorbs = λ a b. lower_met (dual K) a _ (K.meet_left a b);
  below_join = λ a b p. commutes (dual K) a b ∙ lower_met (dual K) b a p;
  join_below = λ a b e. met_lower (dual K) b a (commutes (dual K) b a ∙ e);
  turns_back = turned_back K;
  negation_apart = λ a b e. sym (K.twice a) ∙ (ap K.negation e ∙ K.twice b);
  negation_meet = negation_met K;
  negation_join = negation_met (dual K);
  negation_least = negated_least K;
  negation_greatest = negated_least (dual K);
}

in_order : (m n : ℕ) → (m ≤ n) ⊎ (n ≤ m)
in_order m n = ⊎_elim (λ h. inl h.1) (λ h. inr (omega arith)) (leb_tells m n)

module _ (K : Kind) (e : K.ranked ≡ true) where
  one_at : (a b : K.Level) → K.rank a ≡ K.rank b → a ≡ b
  one_at a b p = sym (K.at_rank e a) ∙ (ap K.at p ∙ K.at_rank e b)

  ordered : (a b : K.Level) → (K.◌⊑◌ a b) ⊎ (K.◌⊑◌ b a)
  ordered a b = ⊎_elim (λ p. inl (K.rank_down e a b p)) (λ p. inr (K.rank_down e b a p)) (in_order (K.rank a) (K.rank b))

  lowest : K.rank K.least ≡ 0
  lowest = omega (arith, K.rank_at e 0 (omega arith), K.rank_up e _ _ (K.above_least (K.at 0)))

  met_rank : (a b : K.Level) → K.rank (K.meet a b) ≡ min (K.rank a) (K.rank b)
  met_rank a b =
      let left = K.rank_up e _ _ (K.meet_left a b) in
      let right = K.rank_up e _ _ (K.meet_right a b) in
      ⊎_elim
      (λ p. omega (arith, ap K.rank (lower_met K a b p), K.rank_up e a b p))
      (λ p. omega (arith, ap K.rank (commutes K a b ∙ lower_met K b a p), K.rank_up e b a p))
      (ordered a b)

  kept_at : (r s : ℕ) → r ≤ s → s ≤ K.top → K.◌⊑◌ (K.at r) (K.at s)
  kept_at r s p q = K.rank_down e _ _ (omega (arith, K.rank_at e r (omega arith), K.rank_at e s q))

  negated_at : (r : ℕ) → r ≤ K.top → K.negation (K.at r) ≡ K.at (K.top - r)
  negated_at r p = one_at _ _ (omega (arith, K.rank_negation e (K.at r), K.rank_at e r p, K.rank_at e (K.top - r) (omega arith)))

pub rank_laws : (K : Kind) → K.ranked ≡ true → RankLaws K
rank_laws K e = record {
  total = ordered K e;
  rank_apart = one_at K e;
  rank_least = lowest K e;
  rank_greatest = omega (arith, lowest (dual K) e, K.rank_top e K.greatest);
  rank_meet = met_rank K e;
  rank_join = λ a b. omega (arith, met_rank (dual K) e a b, K.rank_top e a, K.rank_top e b, K.rank_top e (K.join a b));
  at_keeps = kept_at K e;
  negation_at = negated_at K e;
}
