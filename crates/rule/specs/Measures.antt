-- Rules made of measures: of windows the one with the smallest first measure is best, of equal ones the one with the smallest
-- second, and so on. Such a rule has all its laws from two facts: its measures remain, and its value turns round, when every
-- rank r becomes t - r.
use Rattle.std.specs.Prelude.{◌≡◌, ℕ, ◌*◌, ◌<◌, ◌≤◌, Bool, true, false, ◌&&◌, ◌||◌, T, List, [], ◌∷◌, ◌==◌, nat_le, nat_lt, refl}
use Rattle.std.proofs.Common.{sym, ◌∙◌, subst, ⊎_elim, arith, leb→le, le→leb, ltb→lt, lt→ltb, eqb→eq}
use Rattle.std.proofs.Math.Dec.{eqb_refl}
use Rattle.std.proofs.lemmas.Bool.Decides.{leb_tells}
use Rattle.level.specs.Truths.{and_left, and_right, and_most, or_left, or_right, or_least}
use Rattle.rule.specs.Ranks.{Numbers, numbers}
use Rattle.rule.specs.Fractions.{Fraction, SumTo}
use Rattle.rule.specs.Criterion.{Criterion}
use Rattle.rule.specs.Windows.{Shaped, shaped, either}
use Rattle.rule.specs.Flipped.{Flipped, flips}

-- a number of a window, which remains when every rank r becomes t - r
pub record Measure : Type 0 where
  pub of : Numbers → ℕ
  pub fair : (t : ℕ) (w v : Numbers) → Flipped t w v → of v ≡ of w

-- a value of a window, which lies among its ranks and turns round with them
pub record Value : Type 0 where
  pub of : Numbers → Fraction
  pub positive : (w : Numbers) → Shaped w → 1 ≤ (of w).den
  pub small : (w : Numbers) → Shaped w → (of w).den ≤ 1000
  pub not_below : (w : Numbers) → Shaped w → w.lowest * (of w).den ≤ (of w).num
  pub not_above : (w : Numbers) → Shaped w → (of w).num ≤ w.highest * (of w).den
  pub fair : (t : ℕ) (w v : Numbers) → Flipped t w v → SumTo t (of v) (of w)

-- a is less than b, or equal to it and the rest decides
abbrev pub first_then : ℕ → ℕ → Bool → Bool
first_then a b rest = nat_lt a b || (a == b && rest)

-- the measures of the first window are at most those of the second, the first measure deciding first
abbrev pub at_most_by : List Measure → Numbers → Numbers → Bool
at_most_by [] v w = true
at_most_by (m ∷ []) v w = nat_le (m.of v) (m.of w)
at_most_by (m ∷ (n ∷ ms)) v w = first_then (m.of v) (m.of w) (at_most_by (n ∷ ms) v w)

-- `first_then`, put in and taken out
module _ (a b : ℕ) (rest : Bool) where
  by_first : a < b → T (first_then a b rest)
  by_first h = or_left (nat_lt a b) (a == b && rest) (lt→ltb a b h)

  by_rest : a ≡ b → T rest → T (first_then a b rest)
  by_rest e t = or_right (nat_lt a b) (a == b && rest) (and_most (a == b) rest true (λ _. subst (λ x. T (a == x)) e (eqb_refl a)) (λ _. t) tt)

  decided : {P : Type 0} → T (first_then a b rest) → (a < b → P) → (a ≡ b → T rest → P) → P
  decided {P} = pick (nat_lt a b) (ltb→lt a b)
    where
      pick : (c : Bool) → (T c → a < b) → T (c || (a == b && rest)) → (a < b → P) → (a ≡ b → T rest → P) → P
      pick true f t less same = less (f tt)
      pick false f t less same = same (eqb→eq a b (and_left (a == b) rest t)) (and_right (a == b) rest t)

then_either : (a b : ℕ) (p q : Bool) → T (p || q) → T (first_then a b p || first_then b a q)
then_either a b p q t =
    ⊎_elim
    (λ h. ⊎_elim (λ k. both (omega (arith, h.1, k.1))) (λ k. or_left _ _ (by_first a b p k.1)) (leb_tells b a))
    (λ h. or_right (first_then a b p) _ (by_first b a q h.1))
    (leb_tells a b)
  where
    both : a ≡ b → T (first_then a b p || first_then b a q)
    both e = or_least p q _ (λ s. or_left _ _ (by_rest a b p e s)) (λ s. or_right (first_then a b p) _ (by_rest b a q (sym e) s)) t

then_through : (a b c : ℕ) (p q r : Bool) → (T p → T q → T r) → T (first_then a b p) → T (first_then b c q) → T (first_then a c r)
then_through a b c p q r rest s t =
    decided a b p s
    (λ h. decided b c q t (λ k. by_first a c r (omega arith)) (λ e _. by_first a c r (omega arith)))
    (λ e u. decided b c q t (λ k. by_first a c r (omega arith)) (λ f v. by_rest a c r (e ∙ f) (rest u v)))

pub by_either : (ms : List Measure) (v w : Numbers) → T (at_most_by ms v w || at_most_by ms w v)
by_either [] v w = tt
by_either (m ∷ []) v w = either (m.of v) (m.of w)
by_either (m ∷ (n ∷ ms)) v w = then_either (m.of v) (m.of w) (at_most_by (n ∷ ms) v w) (at_most_by (n ∷ ms) w v) (by_either (n ∷ ms) v w)

pub by_through : (ms : List Measure) (u v w : Numbers) → T (at_most_by ms u v) → T (at_most_by ms v w) → T (at_most_by ms u w)
by_through [] u v w s t = tt
by_through (m ∷ []) u v w s t = le→leb _ _ (omega (arith, leb→le (m.of u) (m.of v) s, leb→le (m.of v) (m.of w) t))
by_through (m ∷ (n ∷ ms)) u v w s t =
    then_through (m.of u) (m.of v) (m.of w) (at_most_by (n ∷ ms) u v) (at_most_by (n ∷ ms) v w) (at_most_by (n ∷ ms) u w)
    (by_through (n ∷ ms) u v w) s t

pub by_fair : (ms : List Measure) (t : ℕ) (v w v' w' : Numbers) → Flipped t v v' → Flipped t w w' → at_most_by ms v' w' ≡ at_most_by ms v w
by_fair [] t v w v' w' f g = refl
by_fair (m ∷ []) t v w v' w' f g = λ i. nat_le (m.fair t v v' f i) (m.fair t w w' g i)
by_fair (m ∷ (n ∷ ms)) t v w v' w' f g = λ i. first_then (m.fair t v v' f i) (m.fair t w w' g i) (by_fair (n ∷ ms) t v w v' w' f g i)

-- the rule by these measures, with this value
abbrev pub least : List Measure → Value → Criterion
least ms q = record {
  prefers = at_most_by ms;
  value = q.of;
  total = λ ps qs _ _. by_either ms (numbers ps) (numbers qs);
  transitive = λ ps qs rs _ _ _. by_through ms (numbers ps) (numbers qs) (numbers rs);
  positive = λ rs h. q.positive _ (shaped rs h);
  small = λ rs h. q.small _ (shaped rs h);
  not_below = λ rs h. q.not_below _ (shaped rs h);
  not_above = λ rs h. q.not_above _ (shaped rs h);
  fair = λ t _ ps qs h k. by_fair ms t _ _ _ _ (flips t ps h) (flips t qs k);
  fair_value = λ t _ rs h. q.fair t _ _ (flips t rs h);
}
