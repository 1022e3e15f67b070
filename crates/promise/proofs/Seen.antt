-- Erosion is the greatest lower bound of the levels seen. Everything later rests on the laws of this file alone.
use Rattle.std.proofs.Common.{◌≡◌, ℕ, ◌+◌, ◌-◌, ◌/◌, ◌%◌, ◌<◌, T, ltb, leb, sym, refl, subst, arith, le→leb, ltb→lt, lt→ltb, leb→le}
use Rattle.level.specs.Kind.{Kind}
use Rattle.recipe.specs.Elements.{Offsets, turned, centred, radius}
use Rattle.recipe.proofs.Gathered.{both, first, second, lower, nearest, within_radius}
use Rattle.steps.specs.Images.{Size, Place, Inside, Image, moved, among, lands}
use Rattle.promise.specs.Morphology.{Leads, eroded}
use Rattle.promise.proofs.Around.{Near}

-- from p the element leads to q
pub record Sees (s : Size) (E : Offsets) (p q : Place) : Type 0 where
  pub offset : ℕ
  pub few : offset < 25
  pub taken : T (E offset)
  pub inside : Inside s q
  pub across : q.column + 2 ≡ p.column + offset % 5
  pub down : q.row + 2 ≡ p.row + offset / 5

-- who is seen through an element sees back through the element turned
pub turn : {s : Size} {E : Offsets} {p q : Place} → Inside s p → Sees s E p q → Sees s (turned E) q p
turn {E = E} i v = record {
  offset = 24 - v.offset;
  few = omega arith;
  taken = let e : v.offset ≡ 24 - (24 - v.offset) = omega arith in subst (λ k. T (E k)) e v.taken;
  inside = i;
  across = omega arith;
  down = omega arith;
}

pub turn_back : {s : Size} {E : Offsets} {p q : Place} → Inside s p → Sees s (turned E) p q → Sees s E q p
turn_back i v = record {
  offset = 24 - v.offset;
  few = omega arith;
  taken = v.taken;
  inside = i;
  across = omega arith;
  down = omega arith;
}

-- the centre leads from each place to itself
pub sees_itself : {s : Size} {E : Offsets} {p : Place} → T (centred E) → Inside s p → Sees s E p p
sees_itself t i = record { offset = 12; few = omega arith; taken = t; inside = i; across = refl; down = refl }

-- what the element shows is never further than d
abbrev pub Spans : Size → Offsets → ℕ → Type 0
Spans s E d = (p q : Place) → Inside s p → Sees s E p q → Near d p q

pub radius_spans : (s : Size) (E : Offsets) → Spans s E (radius E)
radius_spans s E p q i v = let d = within_radius E v.offset v.few v.taken in omega arith

pub turned_spans : (s : Size) (E : Offsets) → Spans s (turned E) (radius E)
turned_spans s E p q i v = let n = radius_spans s E q p v.inside (turn_back i v) in omega arith

among_true : (n x y : ℕ) → y + 2 ≡ x → y < n → T (among n x)
among_true n x y e h = both (leb 2 x) (ltb x (n + 2)) (le→leb 2 x (omega arith)) (lt→ltb x (n + 2) (omega arith))

true_among : (n x : ℕ) → T (among n x) → (x - 2 + 2 ≡ x) × (x - 2 < n)
true_among n x t =
    let l = leb→le 2 x (first (leb 2 x) (ltb x (n + 2)) t) in
    let u = ltb→lt x (n + 2) (second (leb 2 x) (ltb x (n + 2)) t) in
    omega arith

module _ {s : Size} {E : Offsets} {p q : Place} (v : Sees s E p q) where
  pub seen_leads : Leads s E p v.offset
  seen_leads = (
    v.few,
    both _ (lands s p v.offset) v.taken
        (both _ (among s.height (p.row + v.offset / 5))
        (among_true s.width _ q.column v.across v.inside.0)
        (among_true s.height _ q.row v.down v.inside.1)),
  )

  seen_there : moved p v.offset ≡ q
  seen_there = λ i. record { column = columns i; row = rows i }
    where
      columns : p.column + v.offset % 5 - 2 ≡ q.column
      columns = omega arith

      rows : p.row + v.offset / 5 - 2 ≡ q.row
      rows = omega arith

pub leads_seen : {s : Size} (E : Offsets) {p : Place} (b : ℕ) → Leads s E p b → Sees s E p (moved p b)
leads_seen {s} E {p} b h =
    let l = second (E b) (lands s p b) h.1 in
    let c = true_among s.width (p.column + b % 5) (first _ (among s.height (p.row + b / 5)) l) in
    let r = true_among s.height (p.row + b / 5) (second (among s.width (p.column + b % 5)) _ l) in
    record { offset = b; few = h.0; taken = first (E b) (lands s p b) h.1; inside = (c.1, r.1); across = c.0; down = r.0 }

module _ (K : Kind) (s : Size) (E : Offsets) (f : Image K) where
  -- the erosion is at most each level that an offset leads to, and the greatest such level
  pub eroded_at : (p : Place) (b : ℕ) → Leads s E p b → K.◌⊑◌ (eroded K s E f p) (f (moved p b))
  eroded_at p b h = lower K.◌⊑◌ K.meet K.transitive K.meet_left K.meet_right K.greatest _ (λ b. f (moved p b)) 25 b h.0 h.1

  pub eroded_over : (p : Place) (a : K.Level) → ((b : ℕ) → Leads s E p b → K.◌⊑◌ a (f (moved p b))) → K.◌⊑◌ a (eroded K s E f p)
  eroded_over p a all = nearest K.◌⊑◌ K.meet K.meet_most K.greatest a (K.below_greatest a) _ (λ b. f (moved p b)) 25 (λ b h t. all b (h, t))

  -- the same of the places seen
  pub eroded_lower : {p q : Place} → Sees s E p q → K.◌⊑◌ (eroded K s E f p) (f q)
  eroded_lower {p} v = subst (λ t. K.◌⊑◌ (eroded K s E f p) (f t)) (seen_there v) (eroded_at p v.offset (seen_leads v))

  pub eroded_most : (p : Place) (a : K.Level) → ((q : Place) → Sees s E p q → K.◌⊑◌ a (f q)) → K.◌⊑◌ a (eroded K s E f p)
  eroded_most p a all = eroded_over p a (λ b h. all (moved p b) (leads_seen E b h))

-- so an erosion depends on the levels seen alone
pub eroded_same : (K : Kind) (s : Size) (E : Offsets) (f g : Image K) (p : Place) → ((q : Place) → Sees s E p q → f q ≡ g q) →
    eroded K s E f p ≡ eroded K s E g p
eroded_same K s E f g p e =
    K.antisymmetric _ _
    (eroded_most K s E g p _ (λ q v. subst (λ a. K.◌⊑◌ (eroded K s E f p) a) (e q v) (eroded_lower K s E f v)))
    (eroded_most K s E f p _ (λ q v. subst (λ a. K.◌⊑◌ (eroded K s E g p) a) (sym (e q v)) (eroded_lower K s E g v)))
