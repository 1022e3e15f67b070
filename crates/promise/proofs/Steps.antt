-- Each step keeps what the entry says of the operator.
use Rattle.std.proofs.Common.{◌≡◌, ℕ, ◌+◌, ◌*◌, ◌/◌, ◌≤◌, max, Bool, true, false, cond, ◌||◌, T, eqb, ap, subst, ap₂, arith, eqb→eq}
use Rattle.level.specs.declared.side.Side.{Side}
use Rattle.level.specs.declared.side.Side.TheVariants.{Low, High}
use Rattle.level.specs.Kind.{Kind}
use Rattle.level.specs.Dual.{dual}
use Rattle.level.specs.Lattice.{laws}
use Rattle.rule.specs.Criterion.{Criterion}
use Rattle.recipe.specs.declared.element.Element.{Element}
use Rattle.recipe.specs.declared.entry.Chain.{Chain}
use Rattle.recipe.specs.declared.entry.Chain.TheVariants.{OfAny, Of, Broken}
use Rattle.recipe.specs.declared.entry.Entry.{Entry}
use Rattle.recipe.specs.Elements.{Offsets, bits, offsets, turned, centred, radius}
use Rattle.recipe.specs.Steps.{Change, negation, folding, filtering, selecting, Merge, bounding, averaging, change, merge, reads_ranks}
use Rattle.recipe.specs.Sheets.{frame_entry, further, longer, after, of_two}
use Rattle.recipe.proofs.Gathered.{first, second}
use Rattle.steps.specs.Images.{Size, Sized, Place, Inside, negative}
use Rattle.steps.specs.Selections.{selected}
use Rattle.steps.specs.Recipes.{half, mean, changed, merged}
use Rattle.promise.specs.Operators.{Operator, BelowFrame}
use Rattle.promise.specs.Morphology.{eroded, dilated, opened, closed}
use Rattle.promise.proofs.Around.{Under, Near, near_wider, near_further, Bounded, Depends}
use Rattle.promise.proofs.Seen.{Sees, Spans, sees_itself, radius_spans, turned_spans, eroded_lower, eroded_most, eroded_same}
use Rattle.promise.proofs.Adjoint.{eroded_keeps, opened_below, opened_keeps}
use Rattle.promise.proofs.Chains.{Chained, ChainOf, chained_over, frame_chained, opened_chained}
use Rattle.promise.proofs.Selected.{selected_between, selected_same}

-- the plane is a chain of the element n
abbrev pub links : ℕ → Chain → Bool
links n OfAny = true
links n (Of m) = eqb m.bits n
links n Broken = false

-- what an entry says of an operator, and why that settles; R is the order, low and high are the open and the close by an element
pub record Holds {L : Type 0} (R : L → L → Type 0) (low high : Offsets → (Place → L) → Place → L)
    (s : Size) (e : Entry) (op : (Place → L) → Place → L) : Type 0 where
  pub below : T e.below → (f : Place → L) → Under R s (op f) f
  pub above : T e.above → (f : Place → L) → Under R s f (op f)
  pub keeps : T e.keeps → (f g : Place → L) → Under R s f g → Under R s (op f) (op g)
  pub turns : T e.turns → (f g : Place → L) → Under R s f g → Under R s (op g) (op f)
  pub bounded : T e.within → Bounded R s e.reach op
  pub depends : Depends s e.reach op
  pub chained : (n : ℕ) → T (links n e.chain) → Chained (Under R s) (low (bits n)) (high (bits n)) op

abbrev pub Good : (K : Kind) → Size → Entry → Operator K → Type 0
Good K s e op = Holds K.◌⊑◌ (opened K s) (closed K s) s e op

-- the entry where the order is reversed
abbrev pub swapped : Entry → Entry
swapped e = record {
  reach = e.reach;
  below = e.above;
  above = e.below;
  keeps = e.keeps;
  turns = e.turns;
  within = e.within;
  chain = e.chain;
}

module _ {L : Type 0} {R : L → L → Type 0} {low high : Offsets → (Place → L) → Place → L}
    {s : Size} {e : Entry} {op : (Place → L) → Place → L} where
  good_over : Holds R low high s e op → Holds (λ a b. R b a) high low s (swapped e) op
  good_over h = record {
    below = h.above;
    above = h.below;
    keeps = λ t f g b. h.keeps t g f b;
    turns = λ t f g b. h.turns t g f b;
    bounded = λ t f p i. ((h.bounded t f p i).1, (h.bounded t f p i).0);
    depends = h.depends;
    chained = λ n t. chained_over (h.chained n t);
  }

-- an erosion reaches as much further as the element spans
module _ (K : Kind) {s : Size} (sized : Sized s) (E : Offsets) (op : Operator K) (r d t : ℕ) (wide : further r d ≤ t) (spans : Spans s E d) where
  eroded_depends : Depends s r op → Depends s t (λ f. eroded K s E (op f))
  eroded_depends h f g p i e =
      eroded_same K s E (op f) (op g) p
      (λ q v. h f g q v.inside (λ z j n. e z j (near_further sized r d t p q z i j wide (spans p q i v) n)))

  eroded_bounded : T (centred E) → Bounded K.◌⊑◌ s r op → Bounded K.◌⊑◌ s t (λ f. eroded K s E (op f))
  eroded_bounded c h f p i = (
    λ a u. eroded_most K s E (op f) p a
        (λ q v. (h f q v.inside).0 a (λ z j n. u z j (near_further sized r d t p q z i j wide (spans p q i v) n))),
    λ a o. K.transitive _ _ _ (eroded_lower K s E (op f) (sees_itself c i))
        ((h f p i).1 a (λ z j n. o z j (near_wider sized r t p z i j (omega arith) n))),
  )

module _ (K : Kind) {s : Size} (sized : Sized s) (E : Offsets) (op : Operator K) (r d t : ℕ) (wide : further r d ≤ t) (spans : Spans s E d) where
  dilated_depends : Depends s r op → Depends s t (λ f. dilated K s E (op f))
  dilated_depends h = eroded_depends (dual K) sized E op r d t wide spans h

  dilated_bounded : T (centred E) → Bounded K.◌⊑◌ s r op → Bounded K.◌⊑◌ s t (λ f. dilated K s E (op f))
  dilated_bounded c h f p i =
      let w = eroded_bounded (dual K) sized E op r d t wide spans c (λ f p i. ((h f p i).1, (h f p i).0)) f p i in
      (w.1, w.0)

-- a chain that an open or a close by n leaves is a chain of n, and so was the plane before
links_longer : (m : ℕ) (n : Element) (c : Chain) → T (links m (longer n c)) → (n.bits ≡ m) × T (links n.bits c)
links_longer m n OfAny t = (eqb→eq n.bits m t, tt)
links_longer m n (Of k) t = pick (eqb k.bits n.bits) t
  where
    pick : (c : Bool) → T (links m (cond c (Of n) Broken)) → (n.bits ≡ m) × T c
    pick true t = (eqb→eq n.bits m t, tt)
    pick false t = elim t [ ]
links_longer m n Broken t = elim t [ ]

module _ (K : Kind) {s : Size} (sized : Sized s) (e : Entry) (op : Operator K) (h : Good K s e op) where
  negated : Good K s (after negation e) (λ f. negative K (op f))
  negated = record {
    below = λ t. elim t [ ];
    above = λ t. elim t [ ];
    keeps = λ t f g b p i. K.turns _ _ (h.turns t f g b p i);
    turns = λ t f g b p i. K.turns _ _ (h.keeps t f g b p i);
    bounded = λ t. elim t [ ];
    depends = λ f g p i a. ap K.negation (h.depends f g p i a);
    chained = λ n t. elim t [ ];
  }

  module _ (n : Element) where
    eroded_good : Good K s (after (folding Low n) e) (λ f. eroded K s (offsets n) (op f))
    eroded_good = record {
      below = λ t f p i.
          K.transitive _ _ _ (eroded_lower K s E (op f) (sees_itself (second _ _ t) i)) (h.below (first _ _ t) f p i);
      above = λ t. elim t [ ];
      keeps = λ t f g b. eroded_keeps K s E _ _ (h.keeps t f g b);
      turns = λ t f g b. eroded_keeps K s E _ _ (h.turns t f g b);
      bounded = λ t. eroded_bounded K sized E op e.reach d _ (omega arith) (radius_spans s E) (second _ _ t) (h.bounded (first _ _ t));
      depends = eroded_depends K sized E op e.reach d _ (omega arith) (radius_spans s E) h.depends;
      chained = λ n t. elim t [ ];
    }
      where
        E : Offsets
        E = offsets n

        d : ℕ
        d = radius (offsets n)

    opened_good : Good K s (after (filtering Low n) e) (λ f. opened K s (offsets n) (op f))
    opened_good = record {
      below = λ t f p i. K.transitive _ _ _ (opened_below K s E (op f) p i) (h.below t f p i);
      above = λ t. elim t [ ];
      keeps = λ t f g b. opened_keeps K s E _ _ (h.keeps t f g b);
      turns = λ t f g b. opened_keeps K s E _ _ (h.turns t f g b);
      bounded = λ t.
          dilated_bounded K sized E inner (r + d) d _ (omega arith) (radius_spans s E) (second _ _ t)
          (eroded_bounded K sized (turned E) op r d _ (omega arith) (turned_spans s E) (second _ _ t) (h.bounded (first _ _ t)));
      depends =
          dilated_depends K sized E inner (r + d) d _ (omega arith) (radius_spans s E)
          (eroded_depends K sized (turned E) op r d _ (omega arith) (turned_spans s E) h.depends);
      chained = λ m t.
          let l = links_longer m n e.chain t in
          subst (λ k. ChainOf K s (bits k) (λ f. opened K s E (op f))) l.0 (opened_chained K s E op (h.chained n.bits l.1));
    }
      where
        E : Offsets
        E = offsets n

        r : ℕ
        r = e.reach

        d : ℕ
        d = radius (offsets n)

        inner : Operator K
        inner f = eroded K s (turned (offsets n)) (op f)

    selected_good : (C : Criterion) (side : Side) → K.ranked ≡ true →
        Good K s (after (selecting side n) e) (λ f. selected K s C side (offsets n) (op f))
    selected_good C side w = record {
      below = λ t. elim t [ ];
      above = λ t. elim t [ ];
      keeps = λ t. elim t [ ];
      turns = λ t. elim t [ ];
      bounded = λ t f p i. (
        λ a u. (selected_between K w s C side (offsets n) (op f) p i a K.greatest
            ((h.bounded t f p i).0 a (λ z j m. u z j (here p z i j m)), K.below_greatest _)
            (λ c q v y. ((h.bounded t f q y.inside).0 a (λ z j m. u z j (far p c q z i j v y m)), K.below_greatest _))).0,
        λ a o. (selected_between K w s C side (offsets n) (op f) p i K.least a
            (K.above_least _, (h.bounded t f p i).1 a (λ z j m. o z j (here p z i j m)))
            (λ c q v y. (K.above_least _, (h.bounded t f q y.inside).1 a (λ z j m. o z j (far p c q z i j v y m))))).1,
      );
      depends = λ f g p i a.
          selected_same K s C side (offsets n) (op f) (op g) p (h.depends f g p i (λ z j m. a z j (here p z i j m)))
          (λ c q v y. h.depends f g q y.inside (λ z j m. a z j (far p c q z i j v y m)));
      chained = λ n t. elim t [ ];
    }
      where
        r : ℕ
        r = e.reach

        d : ℕ
        d = radius (offsets n)

        here : (p z : Place) → Inside s p → Inside s z → Near r p z → Near (further r (2 * d)) p z
        here p z i j m = near_wider sized r _ p z i j (omega arith) m

        far : (p c q z : Place) → Inside s p → Inside s z → Sees s (offsets n) p c → Sees s (turned (offsets n)) c q → Near r q z →
            Near (further r (2 * d)) p z
        far p c q z i j v y m =
            near_further sized (r + d) d _ p c z i j (omega arith) (radius_spans s (offsets n) p c i v)
            (near_further sized r d (r + d) c q z v.inside j (omega arith) (turned_spans s (offsets n) c q v.inside y) m)

-- m keeps the order, and lies between the two levels
pub record Between (K : Kind) (m : K.Level → K.Level → K.Level) : Type 0 where
  pub kept : (a b c d : K.Level) → K.◌⊑◌ a c → K.◌⊑◌ b d → K.◌⊑◌ (m a b) (m c d)
  pub under : (a b x : K.Level) → K.◌⊑◌ x a → K.◌⊑◌ x b → K.◌⊑◌ x (m a b)
  pub over : (a b x : K.Level) → K.◌⊑◌ a x → K.◌⊑◌ b x → K.◌⊑◌ (m a b) x

between_meet : (K : Kind) → Between K K.meet
between_meet K = record {
  kept = (laws K).meet_keeps;
  under = K.meet_most;
  over = λ a b x p q. K.transitive _ _ _ (K.meet_left a b) p;
}

half_small : (d : Side) → half d ≤ 1
half_small Low = omega arith
half_small High = omega arith

-- a mean of two ranks, rounded either way
module _ (K : Kind) (w : K.ranked ≡ true) (d : Side) where
  pub rank_mean : (a b : K.Level) → K.rank (mean K d a b) ≡ (K.rank a + K.rank b + half d) / 2
  rank_mean a b = K.rank_at w _ (omega (arith, half_small d, K.rank_top w a, K.rank_top w b))

  between_mean : Between K (mean K d)
  between_mean =
      let small = half_small d in
      record {
        kept = λ a b x y p q. K.rank_down w _ _ (omega (arith, rank_mean a b, rank_mean x y, K.rank_up w a x p, K.rank_up w b y q));
        under = λ a b x p q. K.rank_down w _ _ (omega (arith, rank_mean a b, K.rank_up w x a p, K.rank_up w x b q));
        over = λ a b x p q. K.rank_down w _ _ (omega (arith, rank_mean a b, K.rank_up w a x p, K.rank_up w b x q));
      }

module _ (K : Kind) {s : Size} (sized : Sized s) (d e : Entry) (a b : Operator K) (h : Good K s d a) (k : Good K s e b) where
  mixed_good : (m : K.Level → K.Level → K.Level) → Between K m → Good K s (of_two (averaging Low) d e) (λ f p. m (a f p) (b f p))
  mixed_good m z = record {
    below = λ t f p i. z.over _ _ _ (h.below (first _ _ t) f p i) (k.below (second _ _ t) f p i);
    above = λ t f p i. z.under _ _ _ (h.above (first _ _ t) f p i) (k.above (second _ _ t) f p i);
    keeps = λ t f g o p i. z.kept _ _ _ _ (h.keeps (first _ _ t) f g o p i) (k.keeps (second _ _ t) f g o p i);
    turns = λ t f g o p i. z.kept _ _ _ _ (h.turns (first _ _ t) f g o p i) (k.turns (second _ _ t) f g o p i);
    bounded = λ t f p i.
        let v = h.bounded (first d.within e.within t) f p i in
        let w = k.bounded (second d.within e.within t) f p i in (
          λ x u. z.under _ _ _ (v.0 x (λ q j n. u q j (left p q i j n))) (w.0 x (λ q j n. u q j (right p q i j n))),
          λ x o. z.over _ _ _ (v.1 x (λ q j n. o q j (left p q i j n))) (w.1 x (λ q j n. o q j (right p q i j n))),
        );
    depends = λ f g p i c.
        ap₂ m (h.depends f g p i (λ q j n. c q j (left p q i j n))) (k.depends f g p i (λ q j n. c q j (right p q i j n)));
    chained = λ n t. elim t [ ];
  }
    where
      left : (p q : Place) → Inside s p → Inside s q → Near d.reach p q → Near (max d.reach e.reach) p q
      left p q i j n = near_wider sized d.reach _ p q i j (omega arith) n

      right : (p q : Place) → Inside s p → Inside s q → Near e.reach p q → Near (max d.reach e.reach) p q
      right p q i j n = near_wider sized e.reach _ p q i j (omega arith) n

  met_good : Good K s (of_two (bounding Low) d e) (λ f. merged K (bounding Low) (a f) (b f))
  met_good = record {
    below = pick d.below e.below h.below k.below;
    above = mixed.above;
    keeps = mixed.keeps;
    turns = mixed.turns;
    bounded = mixed.bounded;
    depends = mixed.depends;
    chained = mixed.chained;
  }
    where
      mixed : Good K s (of_two (averaging Low) d e) (λ f. merged K (bounding Low) (a f) (b f))
      mixed = mixed_good K.meet (between_meet K)

      pick :
          (x y : Bool) → (T x → BelowFrame K s a) → (T y → BelowFrame K s b) → T (x || y) →
          BelowFrame K s (λ f. merged K (bounding Low) (a f) (b f))
      pick true y u v t f p i = K.transitive _ _ _ (K.meet_left _ _) (u tt f p i)
      pick false y u v t f p i = K.transitive _ _ _ (K.meet_right _ _) (v t f p i)

-- the frame's entry holds of what gives each frame back
pub start_good : (K : Kind) (s : Size) → Good K s frame_entry (λ f. f)
start_good K s = record {
  below = λ t f p i. K.reflexive _;
  above = λ t f p i. K.reflexive _;
  keeps = λ t f g b. b;
  turns = λ t. elim t [ ];
  bounded = λ t f p i. (λ a u. u p i (omega arith), λ a o. o p i (omega arith));
  depends = λ f g p i a. a p i (omega arith);
  chained = λ n t. frame_chained K s (bits n);
}

-- what is high is what is low where the order is reversed
pub change_good :
    (K : Kind) (C : Criterion) {s : Size} → Sized s → (c : Change) {e : Entry} {op : Operator K} →
    (T (reads_ranks (change c)) → K.ranked ≡ true) → Good K s e op → Good K s (after c e) (λ f. changed K C s c (op f))
change_good K C z negation {e} {op} w h = negated K z e op h
change_good K C z (folding Low n) {e} {op} w h = eroded_good K z e op h n
change_good K C z (folding High n) {e} {op} w h = good_over (eroded_good (dual K) z (swapped e) op (good_over h) n)
change_good K C z (filtering Low n) {e} {op} w h = opened_good K z e op h n
change_good K C z (filtering High n) {e} {op} w h = good_over (opened_good (dual K) z (swapped e) op (good_over h) n)
change_good K C z (selecting d n) {e} {op} w h = selected_good K z e op h n C d (w tt)

pub merge_good :
    (K : Kind) {s : Size} → Sized s → (m : Merge) {d e : Entry} {a b : Operator K} →
    (T (reads_ranks (merge m)) → K.ranked ≡ true) → Good K s d a → Good K s e b → Good K s (of_two m d e) (λ f. merged K m (a f) (b f))
merge_good K z (bounding Low) {d} {e} {a} {b} w h k = met_good K z d e a b h k
merge_good K z (bounding High) {d} {e} {a} {b} w h k =
    good_over (met_good (dual K) z (swapped d) (swapped e) a b (good_over h) (good_over k))
merge_good K z (averaging side) {d} {e} {a} {b} w h k = mixed_good K z d e a b h k (mean K side) (between_mean K (w tt) side)
