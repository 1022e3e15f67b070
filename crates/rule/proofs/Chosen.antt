-- The fold over the candidates ends at a best one, and all best ones are rounded alike.
use Rattle.std.proofs.Common.{◌≡◌, ℕ, ◌≤◌, Bool, true, false, cond, not, T, ◌⊎◌, List, [], ◌∷◌, ◌++◌, sym, refl, ap, ◌∙◌, subst, inl, inr, ⊎_elim, arith}
use Rattle.std.specs.List.{AllByRecursion as Every}
use Rattle.rule.specs.Ranks.{Numbers, Made, Ranks, numbers}
use Rattle.rule.specs.Fractions.{Equal, rounded, Rounded}
use Rattle.rule.specs.Criterion.{Criterion}
use Rattle.rule.specs.Windows.{made, highest_below, lowest_above}
use Rattle.rule.specs.Choice.{wins, Winner, nobody, somebody, winner, best_after, best, settled, selection, In, Ahead, Best, Lies}
use Rattle.level.specs.declared.side.Side.{Side}
use Rattle.rule.proofs.Lifted.{laws}
use Rattle.rule.proofs.Fractions.{rounded_nearest, rounded_one, rounded_between}
use Rattle.rule.proofs.Order.{won, lost, ahead_itself, ahead_through, both_ahead}

pub all_in : {X : Type 0} (P : X → Type 0) (xs : List X) (x : X) → Every P xs → In x xs → P x
all_in P [] x h i = absurd i
all_in P (y ∷ ys) x h (inl e) = subst P (sym e) h.0
all_in P (y ∷ ys) x h (inr i) = all_in P ys x h.1 i

module _ (C : Criterion) (side : Side) (x : ℕ) where
  -- one candidate more, at the end
  pub best_after_more : (b : Winner) (ws : List Numbers) (w : Numbers) →
      best_after C side x b (ws ++ (w ∷ [])) ≡ winner C side x (best_after C side x b ws) (somebody w)
  best_after_more b [] w = refl
  best_after_more b (v ∷ ws) w = best_after_more (winner C side x b (somebody v)) ws w

  pub best_more : (ws : List Numbers) (w : Numbers) → best C side x (ws ++ (w ∷ [])) ≡ winner C side x (best C side x ws) (somebody w)
  best_more ws w = best_after_more nobody ws w

  -- what is known of the better of two windows
  record Preferred (v w p : Numbers) : Type 0 where
    one : (p ≡ v) ⊎ (p ≡ w)
    made : Made p
    first : Ahead C side x p v
    second : Ahead C side x p w

  preferred : (v w : Numbers) (t : Bool) → wins C side x w v ≡ t → Made v → Made w → Preferred v w (cond t w v)
  preferred v w true e m n =
      record { one = inr refl; made = n; first = (won C side x w v n m (subst T (sym e) tt)).0; second = ahead_itself C side x w n }
  preferred v w false e m n =
      record { one = inl refl; made = m; first = ahead_itself C side x v m; second = lost C side x w v n m (subst (λ t. T (not t)) (sym e) tt) }

  -- the fold ends at a best one
  pub fold_best : (w : Numbers) (ws : List Numbers) → Made w → Every Made ws →
      (v : Numbers) × (best_after C side x (somebody w) ws ≡ somebody v) × Best C side x (w ∷ ws) v
  fold_best w [] m ms = (w, refl, record { among = inl refl; ahead = (ahead_itself C side x w m, tt) })
  fold_best w (u ∷ us) m ms =
      let p = cond (wins C side x u w) u w in
      let k = preferred w u (wins C side x u w) refl m ms.0 in
      let r = fold_best p us k.made ms.1 in
      let l = r.0 in
      let b = r.2 in
      let ml = all_in Made (p ∷ us) l (k.made, ms.1) b.among in (
        l,
        r.1,
        record {
          among = ⊎_elim (λ e. ⊎_elim (λ f. inl (e ∙ f)) (λ f. inr (inl (e ∙ f))) k.one) (λ i. inr (inr i)) b.among;
          ahead = (
            ahead_through C side x l p w ml k.made m b.ahead.0 k.first,
            (
              ahead_through C side x l p u ml k.made ms.0 b.ahead.0 k.second,
              b.ahead.1,
            ),
          );
        },
      )

  pub exists : (w : Numbers) (ws : List Numbers) → Every Made (w ∷ ws) → (v : Numbers) × Best C side x (w ∷ ws) v
  exists w ws ms = let r = fold_best w ws ms.0 ms.1 in (r.0, r.2)

  pub one_value : (ws : List Numbers) (v w : Numbers) → Best C side x ws v → Best C side x ws w → Equal (C.value v) (C.value w)
  one_value ws v w p q =
      let vw = all_in (Ahead C side x v) ws w p.ahead q.among in
      let wv = all_in (Ahead C side x w) ws v q.ahead p.among in
      let a = both_ahead C side x v w vw wv in
      let b = both_ahead C side x w v wv vw in
      omega arith

  pub nearest : (w : Numbers) → Made w → Rounded side (C.value w) (rounded side (C.value w))
  nearest w m = rounded_nearest side (C.value w) ((laws C).positive w m)

  pub nearest_one : (w : Numbers) → Made w → (k : ℕ) → Rounded side (C.value w) k → k ≡ rounded side (C.value w)
  nearest_one w m k r =
      let d = (laws C).positive w m in
      rounded_one side (C.value w) (C.value w) k (rounded side (C.value w)) d d refl r (nearest w m)

  pub selected : (ws : List Numbers) → Every Made ws → (w : Numbers) → Best C side x ws w → selection C side x ws ≡ rounded side (C.value w)
  selected [] ms w b = absurd b.among
  selected (u ∷ us) ms w b =
      let r = fold_best u us ms.0 ms.1 in
      let v = r.0 in
      let mv = all_in Made (u ∷ us) v ms r.2.among in
      let mw = all_in Made (u ∷ us) w ms b.among in
      ap (settled C side x) r.1
      ∙ rounded_one side (C.value v) (C.value w) _ _ ((laws C).positive v mv) ((laws C).positive w mw) (one_value (u ∷ us) v w r.2 b) (nearest v mv) (nearest w mw)

  rounded_within : (w : Numbers) → Made w → (w.lowest ≤ rounded side (C.value w)) × (rounded side (C.value w) ≤ w.highest)
  rounded_within w m =
      rounded_between side (C.value w) w.lowest w.highest _ ((laws C).positive w m) ((laws C).not_below w m) ((laws C).not_above w m) (nearest w m)

  pub between : (ws : List Numbers) → Every Made ws → (w : Numbers) → Best C side x ws w →
      (w.lowest ≤ selection C side x ws) × (selection C side x ws ≤ w.highest)
  between ws ms w b =
      subst (λ k. (w.lowest ≤ k) × (k ≤ w.highest)) (sym (selected ws ms w b)) (rounded_within w (all_in Made ws w ms b.among))

-- ranks from low to high make a window that lies there
pub lies : (low high : ℕ) (rs : List ℕ) → Ranks 65535 rs → Every (λ r. low ≤ r) rs → Every (λ r. r ≤ high) rs → Lies low high (numbers rs)
lies low high rs h above below =
    record { made = made rs h; above = lowest_above low rs h.some above; below = highest_below high rs below }

lies_made : (low high : ℕ) (ws : List Numbers) → Every (Lies low high) ws → Every Made ws
lies_made low high [] _ = tt
lies_made low high (w ∷ ws) h = (h.0.made, lies_made low high ws h.1)

pub within : (C : Criterion) (side : Side) (low high x : ℕ) → low ≤ x → x ≤ high → (ws : List Numbers) → Every (Lies low high) ws →
    (low ≤ selection C side x ws) × (selection C side x ws ≤ high)
within C side low high x l h [] _ = (l, h)
within C side low high x l h (w ∷ ws) all =
    let ms = lies_made low high (w ∷ ws) all in
    let e = exists C side x w ws ms in
    let k = all_in (Lies low high) (w ∷ ws) e.0 all e.1.among in
    let b = between C side x (w ∷ ws) ms e.0 e.1 in
    (omega (arith, k.above, b.0), omega (arith, k.below, b.1))
