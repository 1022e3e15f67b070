-- What lies around a place, by inequalities and by bounds, which is how the steps are followed.
use Rattle.std.proofs.Common.{◌≡◌, ℕ, ◌+◌, ◌*◌, ◌<◌, ◌≤◌, min, ◌&&◌, T, leb, sym, subst, mul-le-mul_right, arith, le→leb}
use lib.Arith.{digits_div, digits_mod}
use Rattle.level.specs.declared.side.Side.TheVariants.{Low}
use Rattle.level.specs.Kind.{Kind}
use Rattle.level.specs.Dual.{dual}
use Rattle.recipe.proofs.Gathered.{both, lower}
use Rattle.steps.specs.Images.{Size, Sized, Place, Inside, Image}
use Rattle.promise.specs.Operators.{Operator, near, nth, bound_within, Within, Reaches}

abbrev pub Near : ℕ → Place → Place → Type 0
Near r p q = (p.column ≤ q.column + r) × (q.column ≤ p.column + r) × (p.row ≤ q.row + r) × (q.row ≤ p.row + r)

near_true : (r : ℕ) (p q : Place) → Near r p q → T (near r p q)
near_true r p q n =
    both _ (leb p.row (q.row + r) && leb q.row (p.row + r))
    (both _ (leb q.column (p.column + r)) (le→leb _ _ n.0) (le→leb _ _ n.1))
    (both _ (leb q.row (p.row + r)) (le→leb _ _ n.2) (le→leb _ _ n.3))

-- no place inside is further from another than 255, so a reach need not grow past that
module _ {s : Size} (sized : Sized s) (r d t : ℕ) (p q z : Place) (i : Inside s p) (j : Inside s z) where
  pub near_further : min 255 (r + d) ≤ t → Near d p q → Near r q z → Near t p z
  near_further h m n = omega arith

pub near_wider : {s : Size} → Sized s → (r t : ℕ) (p z : Place) → Inside s p → Inside s z → min 255 r ≤ t → Near r p z → Near t p z
near_wider sized r t p z i j h n = near_further sized r 0 t p p z i j (omega arith) (omega arith) n

module _ (s : Size) (q : Place) (i : Inside s q) where
  number : ℕ
  number = q.row * s.width + q.column

  number_small : number < s.width * s.height
  unfolding number
  number_small = omega (arith, i.0, mul-le-mul_right s.width i.1)

  nth_number : nth s number ≡ q
  unfolding number
  nth_number = λ k. record { column = digits_mod q.row i.0 k; row = digits_div q.row i.0 k }

-- g is below f, where R is the order of levels
abbrev pub Under : {L : Type 0} → (L → L → Type 0) → Size → (Place → L) → (Place → L) → Type 0
Under R s g f = (p : Place) → Inside s p → R (g p) (f p)

-- each pixel is above each lower bound of the frame within r, and below each upper bound
abbrev pub Bounded : {L : Type 0} → (L → L → Type 0) → Size → ℕ → ((Place → L) → Place → L) → Type 0
Bounded {L} R s r op =
    (f : Place → L) (p : Place) → Inside s p →
    ((a : L) → ((q : Place) → Inside s q → Near r p q → R a (f q)) → R a (op f p))
    × ((a : L) → ((q : Place) → Inside s q → Near r p q → R (f q) a) → R (op f p) a)

-- a pixel depends on the frame within r alone
abbrev pub Depends : {L : Type 0} → Size → ℕ → ((Place → L) → Place → L) → Type 0
Depends {L} s r op =
    (f g : Place → L) (p : Place) → Inside s p → ((q : Place) → Inside s q → Near r p q → f q ≡ g q) → op f p ≡ op g p

module _ (K : Kind) (s : Size) where
  lowest_below : (r : ℕ) (f : Image K) (p q : Place) → Inside s q → Near r p q → K.◌⊑◌ (bound_within K s Low r f p) (f q)
  lowest_below r f p q i n =
      subst (λ z. K.◌⊑◌ (bound_within K s Low r f p) (f z)) (nth_number s q i)
      (lower K.◌⊑◌ K.meet K.transitive K.meet_left K.meet_right K.greatest _ (λ k. f (nth s k)) _ (number s q i)
      (number_small s q i) (subst (λ z. T (near r p z)) (sym (nth_number s q i)) (near_true r p q n)))

  pub depends_reaches : (r : ℕ) (op : Operator K) → Depends s r op → Reaches K s r op
  depends_reaches r op h f g p i e = h f g p i (λ q j n. e q j (near_true r p q n))

pub bounded_within : (K : Kind) (s : Size) (r : ℕ) (op : Operator K) → Bounded K.◌⊑◌ s r op → Within K s r op
bounded_within K s r op h f p i =
    ((h f p i).0 _ (λ q j n. lowest_below K s r f p q j n), (h f p i).1 _ (λ q j n. lowest_below (dual K) s r f p q j n))
