-- A kind of level: a lattice with a negation, ranked or not. All theory rests on these laws and on nothing else.
use Rattle.std.specs.Prelude.{◌≡◌, ℕ, ◌-◌, ◌≤◌, Bool, true}

pub record Kind : Type 1 where
  -- what a pixel holds; two levels are the same where `≡` says so
  pub Level : Type 0
  -- the order: a ⊑ b says that a is at most b
  infix 20 ◌⊑◌
  pub ◌⊑◌ : Level → Level → Type 0
  pub least : Level
  pub greatest : Level
  pub meet : Level → Level → Level
  pub join : Level → Level → Level
  pub negation : Level → Level
  -- whether the levels have ranks; where not, the greatest rank, a level's rank and the level at a rank are free
  pub ranked : Bool
  pub top : ℕ
  pub rank : Level → ℕ
  pub at : ℕ → Level
  -- the order is an order, and levels that are at most each other are one
  pub reflexive : (a : Level) → a ⊑ a
  pub antisymmetric : (a b : Level) → a ⊑ b → b ⊑ a → a ≡ b
  pub transitive : (a b c : Level) → a ⊑ b → b ⊑ c → a ⊑ c
  pub above_least : (a : Level) → least ⊑ a
  pub below_greatest : (a : Level) → a ⊑ greatest
  -- the meet is at most both, and the greatest such level
  pub meet_left : (a b : Level) → meet a b ⊑ a
  pub meet_right : (a b : Level) → meet a b ⊑ b
  pub meet_most : (a b c : Level) → c ⊑ a → c ⊑ b → c ⊑ meet a b
  -- the join is at least both, and the least such level
  pub join_left : (a b : Level) → a ⊑ join a b
  pub join_right : (a b : Level) → b ⊑ join a b
  pub join_least : (a b c : Level) → a ⊑ c → b ⊑ c → join a b ⊑ c
  -- negation turns the order round and undoes itself
  pub turns : (a b : Level) → a ⊑ b → negation b ⊑ negation a
  pub twice : (a : Level) → negation (negation a) ≡ a
  -- where ranked, the ranks are 0 to top, and top is from 1 to 65,535
  pub top_some : ranked ≡ true → 1 ≤ top
  pub top_most : ranked ≡ true → top ≤ 65535
  -- exactly one level stands at each rank
  pub rank_at : ranked ≡ true → (r : ℕ) → r ≤ top → rank (at r) ≡ r
  pub at_rank : ranked ≡ true → (a : Level) → at (rank a) ≡ a
  pub rank_top : ranked ≡ true → (a : Level) → rank a ≤ top
  -- the order is that of the ranks, and negation takes rank r to top - r
  pub rank_up : ranked ≡ true → (a b : Level) → a ⊑ b → rank a ≤ rank b
  pub rank_down : ranked ≡ true → (a b : Level) → rank a ≤ rank b → a ⊑ b
  pub rank_negation : ranked ≡ true → (a : Level) → rank (negation a) ≡ top - rank a
