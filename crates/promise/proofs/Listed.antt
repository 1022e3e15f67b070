-- What is gathered into a list: an element for each number that is taken.
use Rattle.std.proofs.Common.{◌≡◌, ℕ, zero, suc, ◌<◌, ◌≤◌, Bool, true, false, cond, T, List, [], ◌∷◌, ◌++◌, map, length, sym, refl, ap, ◌∙◌, ap₂, inl, inr, arith, length-append}
use mathlib.Core.List.{map-append}
use Rattle.std.specs.List.{AllByRecursion as Every}
use Rattle.std.proofs.ByRecursion.{All-append}
use Rattle.rule.specs.Choice.{In}
use Rattle.rule.proofs.Chosen.{all_in}
use Rattle.recipe.specs.Elements.{gather}
use Rattle.recipe.proofs.Gathered.{lower, related}

-- the values at those of the first n numbers that are taken
abbrev pub listed : {A : Type 0} → (ℕ → Bool) → (ℕ → A) → ℕ → List A
listed takes value n = gather ◌++◌ [] takes (λ b. value b ∷ []) n

in_left : {A : Type 0} (x : A) (xs ys : List A) → In x xs → In x (xs ++ ys)
in_left x [] ys h = elim h [ ]
in_left x (z ∷ xs) ys (inl e) = inl e
in_left x (z ∷ xs) ys (inr h) = inr (in_left x xs ys h)

in_right : {A : Type 0} (x : A) (xs ys : List A) → In x ys → In x (xs ++ ys)
in_right x [] ys h = h
in_right x (z ∷ xs) ys h = inr (in_right x xs ys h)

all_none : {A : Type 0} (xs : List A) → Every (λ _. ⊥) xs → xs ≡ []
all_none [] h = refl
all_none (x ∷ xs) h = absurd h.0

module _ {A : Type 0} (takes : ℕ → Bool) (value : ℕ → A) where
  pub listed_all : (P : A → Type 0) (n : ℕ) → ((b : ℕ) → b < n → T (takes b) → P (value b)) → Every P (listed takes value n)
  listed_all P n h =
      related (λ xs (ys : List A). Every P xs) ◌++◌ ◌++◌ (λ a c b d u v. All-append P a c u v) [] [] tt takes _ (λ b. []) n
      (λ b l t. (h b l t, tt))

  -- what is listed is the value of a number taken, and the value of each is listed
  pub in_listed : (n : ℕ) (x : A) → In x (listed takes value n) → (b : ℕ) × (b < n) × T (takes b) × (x ≡ value b)
  in_listed n x h =
      all_in (λ y. (b : ℕ) × (b < n) × T (takes b) × (y ≡ value b)) _ x (listed_all _ n (λ b l t. (b, l, t, refl))) h

  pub listed_in : (n b : ℕ) → b < n → T (takes b) → In (value b) (listed takes value n)
  listed_in n b l t =
      lower (λ xs ys. (x : A) → In x ys → In x xs) ◌++◌ (λ a b c p q x h. p x (q x h))
      (λ a b x h. in_left x a b h) (λ a b x h. in_right x a b h) [] takes (λ b. value b ∷ []) n b l t (value b) (inl refl)

  pub listed_none : (n : ℕ) → ((b : ℕ) → b < n → T (takes b) → ⊥) → listed takes value n ≡ []
  listed_none n h = all_none _ (listed_all (λ _. ⊥) n h)

  pub listed_few : (n : ℕ) → length (listed takes value n) ≤ n
  unfolding gather
  listed_few zero = omega arith
  listed_few (suc n) = pick (takes n) (listed_few n)
    where
      before : List A
      before = listed takes value n

      pick : (c : Bool) → length before ≤ n → length (cond c (before ++ (value n ∷ [])) before) ≤ suc n
      pick true h = omega (arith, length-append before (value n ∷ []))
      pick false h = omega arith

  pub listed_some : (n b : ℕ) → b < n → T (takes b) → 1 ≤ length (listed takes value n)
  listed_some n b l t = some (listed takes value n) (listed_in n b l t)
    where
      some : (xs : List A) → In (value b) xs → 1 ≤ length xs
      some [] h = elim h [ ]
      some (x ∷ xs) h = omega arith

  pub listed_map :
      {B : Type 0} (g : A → B) (value' : ℕ → B) (n : ℕ) → ((b : ℕ) → b < n → T (takes b) → value' b ≡ g (value b)) →
      listed takes value' n ≡ map g (listed takes value n)
  listed_map {B} g value' n h =
      related (λ xs (ys : List B). ys ≡ map g xs) ◌++◌ ◌++◌ (λ a c b d u v. ap₂ ◌++◌ u v ∙ sym (map-append g a c)) [] [] refl takes
      (λ b. value b ∷ []) (λ b. value' b ∷ []) n (λ b l t. ap (λ x. x ∷ []) (h b l t))

  pub listed_same : (value' : ℕ → A) (n : ℕ) → ((b : ℕ) → b < n → T (takes b) → value b ≡ value' b) → listed takes value n ≡ listed takes value' n
  listed_same value' n h =
      related ◌≡◌ ◌++◌ ◌++◌ (λ a c b d u v. ap₂ ◌++◌ u v) [] [] refl takes _ _ n (λ b l t. ap (λ x. x ∷ []) (h b l t))
