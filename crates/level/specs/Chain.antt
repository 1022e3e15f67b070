-- A chain: a ranked kind whose levels are the ranks 0 to t themselves.
use Rattle.std.specs.Prelude.{◌≡◌, ℕ, ◌-◌, ◌≤◌, min, max, Bool, true, ◌&&◌, T, nat_le, refl}
use Rattle.std.proofs.Common.{ap, subst, arith, leb→le, le→leb}
use Rattle.std.proofs.Math.Bridge.{le_prop}
use Rattle.level.specs.Kind.{Kind}
use Rattle.level.specs.Truths.{and_left, and_right, and_most}

-- a rank of a chain: a number that is at most t
pub record Rank (t : ℕ) : Type 0 where
  pub number : ℕ
  pub bound : number ≤ t

-- the bounds of the ranks below, by name, so that a goal shows no more than that
pub zero_bound : (t : ℕ) → 0 ≤ t
zero_bound t = omega arith

pub top_bound : (t : ℕ) → t ≤ t
top_bound t = omega arith

pub meet_bound : (t : ℕ) (a b : Rank t) → min a.number b.number ≤ t
meet_bound t a b = omega arith

pub join_bound : (t : ℕ) (a b : Rank t) → max a.number b.number ≤ t
join_bound t a b = omega arith

pub negation_bound : (t : ℕ) (a : Rank t) → t - a.number ≤ t
negation_bound t a = omega arith

pub clamped_bound : (t n : ℕ) → min n t ≤ t
clamped_bound t n = omega arith

-- the rank nearest to n
abbrev pub clamped : (t n : ℕ) → Rank t
clamped t n = record { number = min n t; bound = clamped_bound t n }

-- t can be the greatest rank of a kind
abbrev pub rankable : ℕ → Bool
rankable t = nat_le 1 t && nat_le t 65535

rank_path : {t : ℕ} (m : ℕ) (p : m ≤ t) (n : ℕ) (q : n ≤ t) → m ≡ n → ◌≡◌ {A = Rank t} (record { number = m; bound = p }) (record { number = n; bound = q })
rank_path {t} m p n q e =
    let P : ℕ → Type 0 = λ k. (f : k ≤ t) → ◌≡◌ {A = Rank t} (record { number = m; bound = p }) (record { number = k; bound = f }) in
    subst P e (λ f. ap (λ (g : m ≤ t). record { number = m; bound = g }) (le_prop p f)) q

-- ranks of one number are one rank
pub same_rank : {t : ℕ} (a b : Rank t) → a.number ≡ b.number → a ≡ b
same_rank a b e = rank_path a.number a.bound b.number b.bound e

pub some_rank : (t : ℕ) → T (rankable t) → 1 ≤ t
some_rank t ok = leb→le 1 t (and_left (nat_le 1 t) (nat_le t 65535) ok)

pub most_rank : (t : ℕ) → T (rankable t) → t ≤ 65535
most_rank t ok = leb→le t 65535 (and_right (nat_le 1 t) (nat_le t 65535) ok)

-- the kind with the ranks 0 to t, which says of a number t at once whether it may be (write `tt`)
abbrev pub chain : (t : ℕ) → T (rankable t) → Kind
chain t ok = record {
  Level = Rank t;
  ◌⊑◌ = λ a b. a.number ≤ b.number;
  least = record { number = 0; bound = zero_bound t };
  greatest = record { number = t; bound = top_bound t };
  meet = λ a b. record { number = min a.number b.number; bound = meet_bound t a b };
  join = λ a b. record { number = max a.number b.number; bound = join_bound t a b };
  negation = λ a. record { number = t - a.number; bound = negation_bound t a };
  ranked = true;
  top = t;
  rank = λ a. a.number;
  at = clamped t;
  reflexive = λ a. omega arith;
  antisymmetric = λ a b p q. same_rank a b (omega arith);
  transitive = λ a b c p q. omega arith;
  above_least = λ a. omega arith;
  below_greatest = λ a. a.bound;
  meet_left = λ a b. omega arith;
  meet_right = λ a b. omega arith;
  meet_most = λ a b c p q. omega arith;
  join_left = λ a b. omega arith;
  join_right = λ a b. omega arith;
  join_least = λ a b c p q. omega arith;
  turns = λ a b p. omega arith;
  twice = λ a. same_rank _ a (omega arith);
  top_some = λ _. some_rank t ok;
  top_most = λ _. most_rank t ok;
  rank_at = λ _ r p. omega arith;
  at_rank = λ _ a. same_rank _ a (omega arith);
  rank_top = λ _ a. a.bound;
  rank_up = λ _ a b p. p;
  rank_down = λ _ a b p. p;
  rank_negation = λ _ a. refl;
}

-- the greatest rank of a chain up to n: n itself, or the nearest number from 1 to 65,535
abbrev pub topmost : ℕ → ℕ
topmost n = max 1 (min n 65535)

pub topmost_rankable : (n : ℕ) → T (rankable (topmost n))
topmost_rankable n = and_most (nat_le 1 (topmost n)) (nat_le (topmost n) 65535) true (λ _. le→leb _ _ (omega arith)) (λ _. le→leb _ _ (omega arith)) tt

-- the kind with the ranks up to n, for every n
abbrev pub chain_to : ℕ → Kind
chain_to n = chain (topmost n) (topmost_rankable n)
