-- Sets of flags, ordered by inclusion.
use Rattle.std.proofs.Math.Path.{fun_ext}
use Rattle.std.specs.Prelude.{ℕ, ◌/◌, ◌%◌, ◌^◌, ◌<◌, Bool, true, false, not, ◌&&◌, ◌||◌, T, ◌==◌}
use Rattle.level.specs.Kind.{Kind}
use Rattle.level.specs.Pairs.{unranked}
use Rattle.level.specs.Truths.{either_way, and_left, and_right, and_most, or_left, or_right, or_least, not_turns, not_twice}

-- flag i of a number: its bit i
abbrev pub flag : ℕ → ℕ → Bool
flag x i = x / 2 ^ i % 2 == 1

-- one of n flags
abbrev pub Flag : ℕ → Type 0
Flag n = (i : ℕ) × (i < n)

-- a set of n flags: of each, whether it is in the set
abbrev pub Set : ℕ → Type 0
Set n = Flag n → Bool

-- the set of the first n flags of a number, whatever its others are
abbrev pub first_flags : (n x : ℕ) → Set n
first_flags n x = λ i. flag x i.0

-- the kind of the sets of n flags: meet is what both have, join what either has, negation what the set lacks
abbrev pub flags : ℕ → Kind
flags n = record {
  Level = Set n;
  ◌⊑◌ = λ a b. (i : Flag n) → T (a i) → T (b i);
  least = λ _. false;
  greatest = λ _. true;
  meet = λ a b i. a i && b i;
  join = λ a b i. a i || b i;
  negation = λ a i. not (a i);
  ranked = false;
  top = 0;
  rank = λ _. 0;
  at = λ _ _. false;
  reflexive = λ a i t. t;
  antisymmetric = λ a b p q. fun_ext (λ i. either_way (a i) (b i) (p i) (q i));
  transitive = λ a b c p q i t. q i (p i t);
  above_least = λ a i t. absurd t;
  below_greatest = λ a i t. tt;
  meet_left = λ a b i. and_left (a i) (b i);
  meet_right = λ a b i. and_right (a i) (b i);
  meet_most = λ a b c p q i. and_most (a i) (b i) (c i) (p i) (q i);
  join_left = λ a b i. or_left (a i) (b i);
  join_right = λ a b i. or_right (a i) (b i);
  join_least = λ a b c p q i. or_least (a i) (b i) (c i) (p i) (q i);
  turns = λ a b p i. not_turns (a i) (b i) (p i);
  twice = λ a. fun_ext (λ i. not_twice (a i));
  top_some = unranked;
  top_most = unranked;
  rank_at = λ e r p. unranked e;
  at_rank = λ e a. unranked e;
  rank_top = λ e a. unranked e;
  rank_up = λ e a b p. unranked e;
  rank_down = λ e a b p. unranked e;
  rank_negation = λ e a. unranked e;
}
