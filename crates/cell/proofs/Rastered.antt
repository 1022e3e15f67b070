-- An output that holds the top plane is the list of its image.
use Rattle.std.proofs.Common.{◌≡◌, ℕ, zero, suc, ◌+◌, ◌*◌, ◌<◌, ◌≤◌, List, [], ◌∷◌, map, length, get_or, sym, refl, ap, ◌∙◌, subst, le_of_suc-le-suc, not-suc-le-zero, arith}
use Rattle.std.proofs.lemmas.List.{ext_get_or, length-map, get_or-map}
use Rattle.std.proofs.lemmas.Nat.{div_below, mod_below, div-add-mod'}
use Rattle.level.specs.Kind.{Kind}
use Rattle.promise.specs.Operators.{nth}
use Rattle.steps.specs.Images.{Size, Inside, Image}
use Rattle.steps.specs.Planes.{places, index, Holds}
use Rattle.steps.specs.Recipes.{top_of}
use Rattle.steps.specs.Stacks.{Stacked}
use Rattle.cell.specs.Rasters.{counted, raster, Got}
use Rattle.cell.specs.Histories.{Setting, size, pixels}

pub counted_length : {A : Type 0} (g : ℕ → A) (n k : ℕ) → length (counted g n k) ≡ n
counted_length g zero k = refl
counted_length g (suc n) k = ap suc (counted_length g n (k + 1))

pub counted_at : {A : Type 0} (g : ℕ → A) (n k i : ℕ) (d : A) → i < n → get_or (counted g n k) i d ≡ g (k + i)
counted_at g zero k i d l = absurd (not-suc-le-zero l)
counted_at g (suc n) k zero d l = let z : k ≡ k + 0 = omega arith in ap g z
counted_at g (suc n) k (suc i) d l = let z : k + 1 + i ≡ k + suc i = omega arith in counted_at g n (k + 1) i d (le_of_suc-le-suc l) ∙ ap g z

-- places and their numbers
some_columns : (s : Size) (k : ℕ) → k < places s → 0 < s.width
some_columns s k l = pick s.width l
  where
    pick : (w : ℕ) → k < w * s.height → 0 < w
    pick zero l = absurd (omega arith)
    pick (suc w) l = omega arith

pub nth_inside : (s : Size) (k : ℕ) → k < places s → Inside s (nth s k)
nth_inside s k l =
    let w = some_columns s k l in
    (mod_below k s.width w, div_below k s.width s.height w (omega arith))

pub nth_index : (s : Size) (k : ℕ) → index s (nth s k) ≡ k
nth_index s k = div-add-mod' k s.width

-- a list that reaches past k has an element
some_of : {X : Type 0} (xs : List X) (k : ℕ) → k < length xs → X
some_of [] k l = absurd (not-suc-le-zero l)
some_of (x ∷ xs) k l = x

module _ (K : Kind) {X : Type 0} (m : X → K.Level) (s : Setting) (f : Image K) (block out : List X) where
  held : (st : List (Image K)) (depth : ℕ) → length st ≡ depth → 1 ≤ depth → Stacked K m (size s) block st → Holds K m (size s) block (depth * pixels s) (top_of f st)
  held [] depth e some stack = absurd (omega arith)
  held (g ∷ st) depth e some stack =
      let q : 1 + length st ≡ depth = omega arith in
      subst (λ (k : ℕ). Holds K m (size s) block (k * pixels s) g) q stack.0

  -- the level at k of the output
  level :
      (img : Image K) (at k : ℕ) (x : X) → length out ≡ pixels s → k < length out → Holds K m (size s) block at img → Got at block out →
      get_or (map m out) k K.least ≡ get_or (raster K (size s) img) k K.least
  level img at k x long l holds got =
      let here : k < pixels s = omega arith in
      let place = nth (size s) k in
      get_or-map m out k x K.least l
      ∙ (ap m (got k x l)
      ∙ (ap (λ j. m (get_or block (at + j) x)) (sym (nth_index (size s) k))
      ∙ (holds place x (nth_inside (size s) k here) ∙ sym (counted_at (λ j. img (nth (size s) j)) (pixels s) 0 k K.least here ∙ ap (λ j. img (nth (size s) j)) zero_plus))))
    where
      zero_plus : 0 + k ≡ k
      zero_plus = omega arith

  pub rastered :
      (st : List (Image K)) (depth : ℕ) → length out ≡ pixels s → length st ≡ depth → 1 ≤ depth → Stacked K m (size s) block st →
      Got (depth * pixels s) block out → map m out ≡ raster K (size s) (top_of f st)
  rastered st depth long e some stack got =
      let img = top_of f st in
      let holds = held st depth e some stack in
      ext_get_or K.least (map m out) (raster K (size s) img) (length-map out m ∙ (long ∙ sym (counted_length (λ k. img (nth (size s) k)) (pixels s) 0)))
      (λ k l. let j = subst (λ n. k < n) (length-map out m) l in level img (depth * pixels s) k (some_of out k j) long j holds got)
