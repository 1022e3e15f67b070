-- What is gathered by an operation that bounds is a bound of the values taken, and the nearest one.
use Rattle.std.proofs.Common.{◌≡◌, ℕ, zero, suc, ◌+◌, ◌<◌, ◌≤◌, max, Bool, true, false, cond, ◌&&◌, T, sym, refl, ◌∙◌, subst, ⊎_elim, le_of_suc-le-suc, not-suc-le-zero, lt-suc_self, eq-or-lt_of_le, add-one, arith}
use Rattle.std.proofs.lemmas.Bool.{cases_lt}
use Rattle.recipe.specs.Elements.{gather, Offsets, distance, radius, GreatestDistance}

pub both : (a b : Bool) → T a → T b → T (a && b)
both true b t u = u
both false b t u = t

pub first : (a b : Bool) → T (a && b) → T a
first true b t = tt
first false b t = t

pub second : (a b : Bool) → T (a && b) → T b
second true b t = t
second false b t = elim t [ ]

-- one number more, as a loop that counts up gathers it
module _ {A : Type 0} (op : A → A → A) (none : A) (takes : ℕ → Bool) (value : ℕ → A) (n : ℕ) where
  pub gather_taken : takes n ≡ true → gather op none takes value (n + 1) ≡ op (gather op none takes value n) (value n)
  unfolding gather
  gather_taken e = rw (add-one, e)

  pub gather_left : takes n ≡ false → gather op none takes value (n + 1) ≡ gather op none takes value n
  unfolding gather
  gather_left e = rw (add-one, e)

module _ {A : Type 0} (R : A → A → Type 0) (op : A → A → A) (trans : (a b c : A) → R a b → R b c → R a c)
    (left : (a b : A) → R (op a b) a) (right : (a b : A) → R (op a b) b) where
  pub lower :
      (none : A) (takes : ℕ → Bool) (value : ℕ → A) (n b : ℕ) → b < n → T (takes b) →
      R (gather op none takes value n) (value b)
  unfolding gather
  lower none takes value zero b h t = absurd (not-suc-le-zero h)
  lower none takes value (suc n) b h t = ⊎_elim last (earlier (λ l. lower none takes value n b l t)) (eq-or-lt_of_le (le_of_suc-le-suc h))
    where
      before : A
      before = gather op none takes value n

      last : b ≡ n → R (cond (takes n) (op before (value n)) before) (value b)
      last e = rw e (pick (takes n) (subst (λ k. T (takes k)) e t))
        where
          pick : (c : Bool) → T c → R (cond c (op before (value n)) before) (value n)
          pick true t = right before (value n)
          pick false t = elim t [ ]

      earlier : (b < n → R before (value b)) → b < n → R (cond (takes n) (op before (value n)) before) (value b)
      earlier ih l = pick (takes n) (ih l)
        where
          pick : (c : Bool) → R before (value b) → R (cond c (op before (value n)) before) (value b)
          pick true r = trans _ _ _ (left before (value n)) r
          pick false r = r

module _ {A : Type 0} (R : A → A → Type 0) (op : A → A → A) (most : (a b c : A) → R c a → R c b → R c (op a b)) where
  pub nearest :
      (none a : A) → R a none → (takes : ℕ → Bool) (value : ℕ → A) (n : ℕ) →
      ((b : ℕ) → b < n → T (takes b) → R a (value b)) → R a (gather op none takes value n)
  unfolding gather
  nearest none a top takes value zero all = top
  nearest none a top takes value (suc n) all =
      pick (takes n) (all n (lt-suc_self n)) (nearest none a top takes value n (λ b h. all b (omega arith)))
    where
      before : A
      before = gather op none takes value n

      pick : (c : Bool) → (T c → R a (value n)) → R a before → R a (cond c (op before (value n)) before)
      pick true here r = most _ _ _ r (here tt)
      pick false here r = r

-- what holds of the values taken, side by side, holds of the whole if the operations keep it
module _ {A B : Type 0} (R : A → B → Type 0) (op : A → A → A) (op' : B → B → B)
    (keeps : (a c : A) (b d : B) → R a b → R c d → R (op a c) (op' b d)) where
  pub related :
      (none : A) (none' : B) → R none none' → (takes : ℕ → Bool) (value : ℕ → A) (value' : ℕ → B) (n : ℕ) →
      ((b : ℕ) → b < n → T (takes b) → R (value b) (value' b)) →
      R (gather op none takes value n) (gather op' none' takes value' n)
  unfolding gather
  related none none' e takes value value' zero all = e
  related none none' e takes value value' (suc n) all =
      pick (takes n) (all n (lt-suc_self n)) (related none none' e takes value value' n (λ b h. all b (omega arith)))
    where
      one : A
      one = gather op none takes value n

      two : B
      two = gather op' none' takes value' n

      pick :
          (c : Bool) → (T c → R (value n) (value' n)) → R one two →
          R (cond c (op one (value n)) one) (cond c (op' two (value' n)) two)
      pick true here r = keeps _ _ _ _ r (here tt)
      pick false here r = r

-- no offset of an element leads further than its radius
pub within_radius : (E : Offsets) (b : ℕ) → b < 25 → T (E b) → distance b ≤ radius E
within_radius E b h t = lower (λ m n. n ≤ m) max (λ a b c p q. omega arith) (λ a b. omega arith) (λ a b. omega arith) 0 E distance 25 b h t

-- some offset below n has that distance
abbrev Reached : Offsets → ℕ → ℕ → Type 0
Reached E n r = (b : ℕ) × (b < n) × T (E b) × (distance b ≡ r)

-- a radius that is not 0 is the distance of some offset
reached : (E : Offsets) (n : ℕ) → 0 < gather max 0 E distance n → Reached E n (gather max 0 E distance n)
unfolding gather
reached E zero h = absurd (not-suc-le-zero h)
reached E (suc n) h = pick (E n) refl h
    (λ l. let r = reached E n l in λ m e. (r.0, omega (arith, r.1), r.2, r.3 ∙ sym e))
  where
    g : ℕ
    g = gather max 0 E distance n

    pick :
        (c : Bool) → E n ≡ c → 0 < cond c (max g (distance n)) g →
        (0 < g → (m : ℕ) → m ≡ g → Reached E (suc n) m) → Reached E (suc n) (cond c (max g (distance n)) g)
    pick true t l earlier =
        ⊎_elim (λ k. earlier (omega arith) (max g (distance n)) (omega arith)) (λ k. (n, lt-suc_self n, subst T (sym t) tt, omega arith)) (cases_lt (distance n) g)
    pick false t l earlier = earlier l g refl

pub radius_greatest : (E : Offsets) → GreatestDistance E (radius E)
radius_greatest E = record { bound = within_radius E; reached = reached E 25 }
