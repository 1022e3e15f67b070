-- When every rank r becomes t - r and low and high are exchanged, the best windows remain the best.
use Rattle.std.proofs.Common.{◌≡◌, ℕ, ◌-◌, ◌≤◌, T, List, [], ◌∷◌, map, sym, refl, ap, ◌∙◌, subst, ap₂, inl, inr, arith}
use Rattle.std.specs.List.{AllByRecursion as Every}
use Rattle.rule.specs.Ranks.{Numbers, Made, Ranks, numbers, flipped, flipped_numbers}
use Rattle.rule.specs.Fractions.{SumTo, away, rounded}
use Rattle.rule.specs.Criterion.{Criterion}
use Rattle.rule.specs.Windows.{made, highest_below}
use Rattle.rule.specs.Flipped.{wider, numbers_flipped}
use Rattle.rule.specs.Choice.{In, Near, Sided, Ahead, Best, selection}
use Rattle.level.specs.Sides.{opposite}
use Rattle.level.specs.declared.side.Side.{Side}
use Rattle.level.specs.declared.side.Side.TheVariants.{Low, High}
use Rattle.rule.proofs.Lifted.{laws, made_flips}
use Rattle.rule.proofs.Fractions.{away_flipped, same_order, order_flipped, rounded_nearest, rounded_one, rounded_flipped}
use Rattle.rule.proofs.Chosen.{all_in, exists, selected, between, nearest}

in_map : {X Y : Type 0} (f : X → Y) (xs : List X) (x : X) → In x xs → In (f x) (map f xs)
in_map f [] x i = absurd i
in_map f (y ∷ ys) x (inl e) = inl (ap f e)
in_map f (y ∷ ys) x (inr i) = inr (in_map f ys x i)

-- a window of ranks up to t
record UpTo (t : ℕ) (w : Numbers) : Type 0 where
  made : Made w
  below : w.highest ≤ t

module _ (C : Criterion) (t : ℕ) (small : t ≤ 65535) where
  abbrev flip : Numbers → Numbers
  flip w = flipped_numbers t w

  positive : (w : Numbers) → UpTo t w → 1 ≤ (C.value w).den
  positive w h = (laws C).positive w h.made

  flip_made : (w : Numbers) → UpTo t w → Made (flip w)
  flip_made w h = made_flips t small w h.made h.below

  flip_positive : (w : Numbers) → UpTo t w → 1 ≤ (C.value (flip w)).den
  flip_positive w h = (laws C).positive (flip w) (flip_made w h)

  value_flipped : (w : Numbers) → UpTo t w → SumTo t (C.value (flip w)) (C.value w)
  value_flipped w h = (laws C).fair_value t small w h.made h.below

  module _ (x : ℕ) (rank : x ≤ t) (side : Side) where
    module _ (v w : Numbers) (h : UpTo t v) (k : UpTo t w) where
      near_flipped : Near x (C.value v) (C.value w) → Near (t - x) (C.value (flip v)) (C.value (flip w))
      near_flipped n =
          same_order (away x (C.value v)) (away x (C.value w)) (away (t - x) (C.value (flip v))) (away (t - x) (C.value (flip w)))
          (positive v h) (positive w k)
          (away_flipped t x (C.value v) (C.value (flip v)) rank (value_flipped v h))
          (away_flipped t x (C.value w) (C.value (flip w)) rank (value_flipped w k)) n

      near_back : Near (t - x) (C.value (flip w)) (C.value (flip v)) → Near x (C.value w) (C.value v)
      near_back n =
          same_order (away (t - x) (C.value (flip w))) (away (t - x) (C.value (flip v))) (away x (C.value w)) (away x (C.value v))
          (flip_positive w k) (flip_positive v h)
          (sym (away_flipped t x (C.value w) (C.value (flip w)) rank (value_flipped w k)))
          (sym (away_flipped t x (C.value v) (C.value (flip v)) rank (value_flipped v h))) n

      sided_flipped : (s : Side) → Sided s (C.value v) (C.value w) → Sided (opposite s) (C.value (flip v)) (C.value (flip w))
      sided_flipped Low s =
          order_flipped t (C.value v) (C.value w) (C.value (flip v)) (C.value (flip w)) (positive v h) (positive w k) (value_flipped v h) (value_flipped w k) s
      sided_flipped High s =
          order_flipped t (C.value w) (C.value v) (C.value (flip w)) (C.value (flip v)) (positive w k) (positive v h) (value_flipped w k) (value_flipped v h) s

      ahead_flipped : Ahead C side x v w → Ahead C (opposite side) (t - x) (flip v) (flip w)
      ahead_flipped a =
          let back : T (C.prefers (flip w) (flip v)) → T (C.prefers w v)
          = subst T ((laws C).fair t small w v k.made h.made k.below h.below) in
          record {
            good = subst T (sym ((laws C).fair t small v w h.made k.made h.below k.below)) a.good;
            near = λ g. near_flipped (a.near (back g));
            sided = λ g n. sided_flipped side (a.sided (back g) (near_back n));
          }

    all_flipped : (v : Numbers) → UpTo t v → (ws : List Numbers) → Every (UpTo t) ws → Every (Ahead C side x v) ws → Every (Ahead C (opposite side) (t - x) (flip v)) (map flip ws)
    all_flipped v h [] _ _ = tt
    all_flipped v h (w ∷ ws) k a = (ahead_flipped v w h k.0 a.0, all_flipped v h ws k.1 a.1)

    best_flipped : (ws : List Numbers) → Every (UpTo t) ws → (w : Numbers) → Best C side x ws w → Best C (opposite side) (t - x) (map flip ws) (flip w)
    best_flipped ws hs w b = record {
      among = in_map flip ws w b.among;
      ahead = all_flipped w (all_in (UpTo t) ws w hs b.among) ws hs b.ahead;
    }

    all_made : (ws : List Numbers) → Every (UpTo t) ws → Every Made ws
    all_made [] _ = tt
    all_made (w ∷ ws) h = (h.0.made, all_made ws h.1)

    all_flip_made : (ws : List Numbers) → Every (UpTo t) ws → Every Made (map flip ws)
    all_flip_made [] _ = tt
    all_flip_made (w ∷ ws) h = (flip_made w h.0, all_flip_made ws h.1)

    selection_flipped : (ws : List Numbers) → Every (UpTo t) ws → selection C (opposite side) (t - x) (map flip ws) ≡ t - selection C side x ws
    selection_flipped [] _ = refl
    selection_flipped (u ∷ us) hs =
        let ms = all_made (u ∷ us) hs in
        let e = exists C side x u us ms in
        let w = e.0 in
        let h = all_in (UpTo t) (u ∷ us) w hs e.1.among in
        let k = rounded side (C.value w) in
        let old : selection C side x (u ∷ us) ≡ k = selected C side x (u ∷ us) ms w e.1 in
        let new : selection C (opposite side) (t - x) (map flip (u ∷ us)) ≡ rounded (opposite side) (C.value (flip w))
        = selected C (opposite side) (t - x) (map flip (u ∷ us)) (all_flip_made (u ∷ us) hs) (flip w) (best_flipped (u ∷ us) hs w e.1) in
        let top : k ≤ t = omega (arith, h.below, (between C side x (u ∷ us) ms w e.1).1, old) in
        let turn : rounded (opposite side) (C.value (flip w)) ≡ t - k
        = rounded_one (opposite side) (C.value (flip w)) (C.value (flip w)) _ _ (flip_positive w h) (flip_positive w h) refl
        (rounded_nearest (opposite side) (C.value (flip w)) (flip_positive w h))
        (rounded_flipped side t (C.value w) (C.value (flip w)) k (positive w h) (flip_positive w h) top (value_flipped w h) (nearest C side x w h.made)) in
        new ∙ turn ∙ ap (λ j. t - j) (sym old)

-- the same of lists of ranks

all_up_to : (t : ℕ) → t ≤ 65535 → (cs : List (List ℕ)) → Every (Ranks t) cs → Every (UpTo t) (map numbers cs)
all_up_to t small [] _ = tt
all_up_to t small (c ∷ cs) h =
    (record { made = made c (wider t 65535 c small h.0); below = highest_below t c h.0.below }, all_up_to t small cs h.1)

lists_flipped : (t : ℕ) (cs : List (List ℕ)) → Every (Ranks t) cs → map (flipped_numbers t) (map numbers cs) ≡ map numbers (map (flipped t) cs)
lists_flipped t [] _ = refl
lists_flipped t (c ∷ cs) h = ap₂ (λ x xs. x ∷ xs) (sym (numbers_flipped t c h.0)) (lists_flipped t cs h.1)

module _ (C : Criterion) (t : ℕ) (small : t ≤ 65535) (side : Side) (x : ℕ) (rank : x ≤ t) (cs : List (List ℕ)) (hs : Every (Ranks t) cs) where
  pub flips_best : (w : Numbers) → Best C side x (map numbers cs) w → Best C (opposite side) (t - x) (map numbers (map (flipped t) cs)) (flipped_numbers t w)
  flips_best w b =
      subst (λ ws. Best C (opposite side) (t - x) ws (flipped_numbers t w)) (lists_flipped t cs hs) (best_flipped C t small x rank side (map numbers cs) (all_up_to t small cs hs) w b)

  pub flips : selection C (opposite side) (t - x) (map numbers (map (flipped t) cs)) ≡ t - selection C side x (map numbers cs)
  flips =
      ap (selection C (opposite side) (t - x)) (sym (lists_flipped t cs hs))
      ∙ selection_flipped C t small x rank side (map numbers cs) (all_up_to t small cs hs)
