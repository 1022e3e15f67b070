-- A list of levels and the image that it is.
use Rattle.std.proofs.Common.{◌≡◌, ℕ, zero, suc, ◌+◌, ◌<◌, List, ◌∷◌, map, length, refl, ap, ◌∙◌, ap₂, arith}
use lib.Arith.{digits_div, digits_mod}
use Rattle.std.proofs.lemmas.List.{get_or-map}
use Rattle.level.specs.Kind.{Kind}
use Rattle.steps.specs.Images.{Size, Place, Inside, Image, Same, negative}
use Rattle.steps.specs.Planes.{places, index}
use Rattle.steps.proofs.Written.{index_fits}
use Rattle.promise.specs.Operators.{nth}
use Rattle.cell.specs.Rasters.{picture, counted, raster}
use Rattle.cell.proofs.Rastered.{counted_at, nth_inside}

module _ {A : Type 0} (g : ℕ → A) where
  counted_same : (f : ℕ → A) (n k : ℕ) → ((i : ℕ) → i < k + n → f i ≡ g i) → counted f n k ≡ counted g n k
  counted_same f zero k e = refl
  counted_same f (suc n) k e = ap₂ ◌∷◌ (e k (omega arith)) (counted_same f n (k + 1) (λ i l. e i (omega arith)))

  counted_map : {B : Type 0} (f : A → B) (n k : ℕ) → counted (λ i. f (g i)) n k ≡ map f (counted g n k)
  counted_map f zero k = refl
  counted_map f (suc n) k = ap (◌∷◌ (f (g k))) (counted_map f n (k + 1))

-- each place inside is the one at its index
at_index : (s : Size) (p : Place) → Inside s p → nth s (index s p) ≡ p
at_index s p i = λ k. record { column = digits_mod p.row i.0 k; row = digits_div p.row i.0 k }

module _ (K : Kind) (s : Size) where
  -- an image written as a list is the image
  pub picture_raster : (f : Image K) → Same K s (picture K s (raster K s f)) f
  picture_raster f p i =
      let from_none : 0 + index s p ≡ index s p = omega arith in
      counted_at (λ k. f (nth s k)) (places s) 0 (index s p) K.least (index_fits s p i)
      ∙ (ap (λ k. f (nth s k)) from_none ∙ ap f (at_index s p i))

  -- images with the same levels are written as one list
  pub raster_same : (f g : Image K) → Same K s f g → raster K s f ≡ raster K s g
  raster_same f g e =
      counted_same (λ k. g (nth s k)) (λ k. f (nth s k)) (places s) 0
      (λ k l. let few : k < places s = omega arith in e (nth s k) (nth_inside s k few))

  -- the negative is written as the list negated
  pub raster_negative : (f : Image K) → raster K s (negative K f) ≡ map K.negation (raster K s f)
  raster_negative f = counted_map (λ k. f (nth s k)) K.negation (places s) 0

  -- a frame negated is the negative
  pub picture_negative : (l : List K.Level) → length l ≡ places s → Same K s (picture K s (map K.negation l)) (negative K (picture K s l))
  picture_negative l e p i = get_or-map K.negation l (index s p) K.least K.least (let few = index_fits s p i in omega arith)
