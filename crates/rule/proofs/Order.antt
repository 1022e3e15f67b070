-- The order in which windows win at one place: of any two one is ahead, and it passes along.
use Rattle.std.proofs.Common.{◌≡◌, ℕ, ◌*◌, ◌≤◌, Bool, true, false, not, ◌&&◌, ◌||◌, T, sym, refl, subst, arith, ltb-false, ltb-true}
use Rattle.rule.specs.Ranks.{Numbers, Made}
use Rattle.rule.specs.Fractions.{Fraction, AtMost, less, away}
use Rattle.rule.specs.Criterion.{Criterion}
use Rattle.rule.specs.Choice.{outer, wins, Near, Sided, Ahead}
use Rattle.level.specs.declared.side.Side.{Side}
use Rattle.level.specs.declared.side.Side.TheVariants.{Low, High}
use Rattle.rule.proofs.Lifted.{laws}
use Rattle.rule.proofs.Fractions.{at_most_through}

holds : (b : Bool) → b ≡ true → T b
holds b e = subst T (sym e) tt

fails : (b : Bool) → b ≡ false → T b → ⊥
fails b e h = subst T e h

-- where one of two tests is true and the first is not, the second is
other : (a b : Bool) → T (a || b) → (T a → ⊥) → T b
other true b t f = absurd (f tt)
other false b t f = t

same : (a : Bool) → T (a || a) → T a
same true t = tt
same false t = t

outer_true : (side : Side) (a b : Fraction) → outer side a b ≡ true → Sided side a b × (Sided side b a → ⊥)
outer_true Low a b e = let l = ltb-true (a.num * b.den) (b.num * a.den) e in (omega arith, λ h. omega arith)
outer_true High a b e = let l = ltb-true (b.num * a.den) (a.num * b.den) e in (omega arith, λ h. omega arith)

outer_false : (side : Side) (a b : Fraction) → outer side a b ≡ false → Sided side b a
outer_false Low a b e = ltb-false (a.num * b.den) (b.num * a.den) e
outer_false High a b e = ltb-false (b.num * a.den) (a.num * b.den) e

less_true : (a b : Fraction) → less a b ≡ true → AtMost a b × (AtMost b a → ⊥)
less_true a b e = let l = ltb-true (a.num * b.den) (b.num * a.den) e in (omega arith, λ h. omega arith)

less_false : (a b : Fraction) → less a b ≡ false → AtMost b a
less_false a b e = ltb-false (a.num * b.den) (b.num * a.den) e

module _ (C : Criterion) (side : Side) (x : ℕ) where
  -- the five tests of `wins`, and what they come to
  module _ (v w : Numbers) (m : Made v) (n : Made w) where
    abbrev a : Fraction
    a = C.value v

    abbrev b : Fraction
    b = C.value w

    win_tests : (p q near far out : Bool) → C.prefers v w ≡ p → C.prefers w v ≡ q →
        less (away x a) (away x b) ≡ near → less (away x b) (away x a) ≡ far → outer side a b ≡ out →
        T (p && (not q || (near || (not far && out)))) → Ahead C side x v w × (Ahead C side x w v → ⊥)
    win_tests false q near far out ep eq en ef eo t = elim t [ ]
    win_tests true false near far out ep eq en ef eo t = (
      record { good = holds _ ep; near = λ g. absurd (fails _ eq g); sided = λ g _. absurd (fails _ eq g) },
      λ h. fails _ eq h.good,
    )
    win_tests true true true far out ep eq en ef eo t =
        let l = less_true (away x a) (away x b) en in (
          record { good = holds _ ep; near = λ _. l.0; sided = λ _ h. absurd (l.1 h) },
          λ h. l.1 (h.near (holds _ ep)),
        )
    win_tests true true false true out ep eq en ef eo t = elim t [ ]
    win_tests true true false false false ep eq en ef eo t = elim t [ ]
    win_tests true true false false true ep eq en ef eo t =
        let l = less_false (away x b) (away x a) ef in
        let o = outer_true side a b eo in (
          record { good = holds _ ep; near = λ _. l; sided = λ _ _. o.0 },
          λ h. o.1 (h.sided (holds _ ep) l),
        )

    loss_tests : (p q near far out : Bool) → C.prefers v w ≡ p → C.prefers w v ≡ q →
        less (away x a) (away x b) ≡ near → less (away x b) (away x a) ≡ far → outer side a b ≡ out →
        T (not (p && (not q || (near || (not far && out))))) → Ahead C side x w v
    loss_tests false q near far out ep eq en ef eo t = record {
      good = other (C.prefers v w) (C.prefers w v) ((laws C).total v w m n) (fails _ ep);
      near = λ g. absurd (fails _ ep g);
      sided = λ g _. absurd (fails _ ep g);
    }
    loss_tests true false near far out ep eq en ef eo t = elim t [ ]
    loss_tests true true true far out ep eq en ef eo t = elim t [ ]
    loss_tests true true false true out ep eq en ef eo t =
        let l = less_true (away x b) (away x a) ef in
        record { good = holds _ eq; near = λ _. l.0; sided = λ _ h. absurd (l.1 h) }
    loss_tests true true false false true ep eq en ef eo t = elim t [ ]
    loss_tests true true false false false ep eq en ef eo t = record {
      good = holds _ eq;
      near = λ _. less_false (away x a) (away x b) en;
      sided = λ _ _. outer_false side a b eo;
    }

    -- a window that wins is ahead, and not level
    pub won : T (wins C side x v w) → Ahead C side x v w × (Ahead C side x w v → ⊥)
    won t = win_tests (C.prefers v w) (C.prefers w v) (less (away x a) (away x b)) (less (away x b) (away x a)) (outer side a b) refl refl refl refl refl t

    -- over a window that does not win the other is ahead, or level with it
    pub lost : T (not (wins C side x v w)) → Ahead C side x w v
    lost t = loss_tests (C.prefers v w) (C.prefers w v) (less (away x a) (away x b)) (less (away x b) (away x a)) (outer side a b) refl refl refl refl refl t

    pub to_win : Ahead C side x v w → (Ahead C side x w v → ⊥) → T (wins C side x v w)
    to_win h f = pick (wins C side x v w) refl
      where
        pick : (t : Bool) → wins C side x v w ≡ t → T t
        pick true e = tt
        pick false e = absurd (f (lost (subst (λ t. T (not t)) (sym e) tt)))

  sided_itself : (s : Side) (q : Fraction) → Sided s q q
  sided_itself Low q = omega arith
  sided_itself High q = omega arith

  pub ahead_itself : (w : Numbers) → Made w → Ahead C side x w w
  ahead_itself w m = record {
    good = same (C.prefers w w) ((laws C).total w w m m);
    near = λ _. omega arith;
    sided = λ _ _. sided_itself side (C.value w);
  }

  sided_through : (s : Side) (p q r : Fraction) → 1 ≤ q.den → Sided s p q → Sided s q r → Sided s p r
  sided_through Low p q r h i j = at_most_through p q r h i j
  sided_through High p q r h i j = at_most_through r q p h j i

  -- to be ahead passes along from first to second to third
  pub ahead_through : (u v w : Numbers) → Made u → Made v → Made w → Ahead C side x u v → Ahead C side x v w → Ahead C side x u w
  ahead_through u v w l m n p q =
      let through : (a b c : Numbers) → Made b → Near x (C.value a) (C.value b) → Near x (C.value b) (C.value c) → Near x (C.value a) (C.value c)
      = λ a b c h. at_most_through (away x (C.value a)) (away x (C.value b)) (away x (C.value c)) ((laws C).positive b h) in
      let vu : T (C.prefers w u) → T (C.prefers v u) = (laws C).transitive v w u m n l q.good in
      let wv : T (C.prefers w u) → T (C.prefers w v) = λ g. (laws C).transitive w u v n l m g p.good in
      record {
        good = (laws C).transitive u v w l m n p.good q.good;
        near = λ g. through u v w m (p.near (vu g)) (q.near (wv g));
        sided = λ g h. sided_through side (C.value u) (C.value v) (C.value w) ((laws C).positive v m)
            (p.sided (vu g) (through v w u n (q.near (wv g)) h))
            (q.sided (wv g) (through w u v l h (p.near (vu g))));
      }

-- windows that are ahead of each other have one value
pub both_ahead : (C : Criterion) (side : Side) (x : ℕ) (v w : Numbers) → Ahead C side x v w → Ahead C side x w v → AtMost (C.value v) (C.value w)
both_ahead C Low x v w p q = p.sided q.good (q.near p.good)
both_ahead C High x v w p q = q.sided p.good (p.near q.good)
