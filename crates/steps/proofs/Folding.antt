-- The loop over the offsets for one row, and the loop over the rows.
use Rattle.std.proofs.Common.{◌≡◌, ℕ, ◌+◌, ◌-◌, ◌*◌, ◌/◌, ◌%◌, ◌<◌, ◌≤◌, true, false, ◌&&◌, List, length, get_or, sym, refl, ap, ◌∙◌, subst, ap₂, inl, inr, ⊎_elim, add_assoc, arith, below_more}
use Rattle.std.proofs.lemmas.Bool.{cases_Bool, cond-true, cond-false, and_parts, and_from, and_left, and_right, and_cases}
use Rattle.std.proofs.lemmas.Bool.Decides.{nat_tests}
use Rattle.level.specs.declared.side.Side.{Side}
use Rattle.level.specs.Kind.{Kind}
use Rattle.recipe.specs.Elements.{Offsets, gather}
use Rattle.recipe.proofs.Gathered.{gather_taken, gather_left}
use Rattle.steps.specs.Images.{Size, Place, Inside, Image, moved, among, lands, bound, unbounded, folded}
use Rattle.steps.specs.Planes.{places, index, Holds, Kept, Apart}
use Rattle.steps.specs.Written.{Filled, Bounded, RowFolded}
use Rattle.steps.proofs.Written.{row_fits, index_fits, holds_kept, apart_out}

-- a column or row that is among the n
pub among_tells : (n x : ℕ) → among n x ≡ true → x - 2 < n
among_tells n x e = grind (arith, nat_tests)

pub among_low : (n x : ℕ) → among n x ≡ true → 2 ≤ x
among_low n x e = grind (arith, nat_tests)

-- the row that an offset leads to lies in the plane, and so apart from the row that is written
pub row_there : (long from to w h r : ℕ) → among h r ≡ true → Apart long from (w * h) to w → Apart long (from + (r - 2) * w) w to w
row_there long from to w h r e p =
    let fits = row_fits w h (r - 2) (among_tells h r e) in
    record {
      first = omega arith;
      second = p.second;
      apart = ⊎_elim (λ l. inl (omega arith)) (λ l. inr (omega arith)) p.apart;
    }

module _ (K : Kind) {X : Type 0} (m : X → K.Level) (side : Side) (s : Size) (E : Offsets) where
  -- the fold of the first n offsets
  abbrev pub folded_by : ℕ → Image K → Image K
  folded_by n f p = gather (bound K side) (unbounded K side) (λ b. E b && lands s p b) (λ b. f (moved p b)) n

  -- the row holds the fold by the first n offsets
  pub record Upto (y from to : ℕ) (before : List X) (n : ℕ) (now : List X) : Type 0 where
    pub levels : (f : Image K) → Holds K m s before from f → (x : ℕ) (d : X) → x < s.width →
        m (get_or now (to + x) d) ≡ folded_by n f (record { column = x; row = y })
    pub kept : Kept to s.width before now

  -- the first n rows of the plane hold the fold
  pub record Rows (from to : ℕ) (before : List X) (n : ℕ) (now : List X) : Type 0 where
    pub levels : (f : Image K) → Holds K m s before from f → (p : Place) (d : X) → p.column < s.width → p.row < n →
        m (get_or now (to + index s p) d) ≡ folded K s side E f p
    pub kept : Kept to (places s) before now

module _ {K : Kind} {X : Type 0} {m : X → K.Level} {side : Side} {s : Size} {E : Offsets} {from to : ℕ} {before : List X} where
  pub upto_none : (y : ℕ) (level : X) → m level ≡ unbounded K side → (now : List X) → Filled level to s.width before now → Upto K m side s E y from to now 0 now
  unfolding gather
  upto_none y level e now f = record { levels = λ g held x d lt. ap m (f.same x d lt) ∙ e; kept = λ k d h. refl }

  -- the offset is not in the element, or leads to no row
  pub upto_skip : (y b : ℕ) (now after : List X) → Upto K m side s E y from to before b now → (E b && among s.height (y + b / 5)) ≡ false →
      after ≡ now → Upto K m side s E y from to before (b + 1) after
  upto_skip y b now after u out same = subst (λ z. Upto K m side s E y from to before (b + 1) z) (sym same) record {
    levels = λ f held x d lt.
        let e : (E b && lands s (record { column = x; row = y }) b) ≡ false =
        ⊎_elim (λ l. and_left _ _ l) (λ l. and_right (E b) _ (and_right (among s.width (x + b % 5)) _ l)) (and_cases (E b) _ out) in
        u.levels f held x d lt ∙ sym (gather_left _ _ _ _ b e);
    kept = u.kept;
  }

  pub upto_more : (y b : ℕ) (now ran after : List X) → Upto K m side s E y from to before b now → (E b && among s.height (y + b / 5)) ≡ true →
      Bounded K m side s.width (b % 5) (from + (y + b / 5 - 2) * s.width) to now ran → after ≡ ran →
      Apart (length now) from (places s) to s.width → Upto K m side s E y from to before (b + 1) after
  upto_more y b now ran after u seen did same apart = subst (λ z. Upto K m side s E y from to before (b + 1) z) (sym same) record {
    levels = λ f held x d lt.
        let p : Place = record { column = x; row = y } in
        let parts = and_parts (E b) _ seen in
        let was = u.levels f held x d lt in
        let step = did.levels x d lt in
        ⊎_elim
        (λ e.
        let inside : Inside s (moved p b) = (among_tells s.width (x + b % 5) e, among_tells s.height (y + b / 5) parts.1) in
        let there = apart_out _ _ _ _ _ apart (index s (moved p b)) (index_fits s (moved p b) inside) in
        let look = ap m (ap (λ k. get_or now k d) (add_assoc from ((y + b / 5 - 2) * s.width) (x + b % 5 - 2)) ∙ u.kept (from + index s (moved p b)) d there) ∙ held (moved p b) d inside in
        step
        ∙ (cond-true _ _ _ e ∙ (ap₂ (bound K side) was look ∙ sym (gather_taken _ _ _ _ b (and_from (E b) _ parts.0 (and_from _ _ e parts.1))))))
        (λ e. step ∙ (cond-false _ _ _ e ∙ (was ∙ sym (gather_left _ _ _ _ b (and_right (E b) _ (and_left _ _ e))))))
        (cases_Bool (among s.width (x + b % 5)));
    kept = λ k d out. did.kept k d out ∙ u.kept k d out;
  }

  pub upto_all : (y n : ℕ) (level : X) (start now : List X) → Filled level to s.width before start → Upto K m side s E y from to start n now → n ≡ 25 →
      Apart (length before) from (places s) to s.width → RowFolded K m side s E y from to before now
  upto_all y n level start now filled u e apart = record {
    levels = λ f held x d lt.
        subst (λ n. m (get_or now (to + x) d) ≡ folded_by K m side s E n f (record { column = x; row = y })) e
        (u.levels f (holds_kept K m s from to s.width before start f (apart_out _ _ _ _ _ apart) filled.kept held) x d lt);
    kept = λ k d out. u.kept k d out ∙ filled.kept k d out;
  }

  pub rows_more : (n : ℕ) (now after : List X) → Rows K m side s E from to before n now → RowFolded K m side s E n from (to + n * s.width) now after →
      n < s.height → Apart (length now) from (places s) to (places s) → Rows K m side s E from to before (n + 1) after
  rows_more n now after was did low apart =
      let fits = row_fits s.width s.height n low in
      record {
        levels = λ f held p d c r.
            let still = holds_kept K m s from to (places s) before now f (apart_out _ _ _ _ _ apart) was.kept held in
            below_more (λ y. (x : ℕ) → x < s.width → m (get_or after (to + index s (record { column = x; row = y })) d) ≡ folded K s side E f (record { column = x; row = y })) n
            (λ y g x lt.
            let up = row_fits s.width n y g in
            let q : Place = record { column = x; row = y } in
            ap m (did.kept (to + index s q) d (omega arith)) ∙ was.levels f held q d lt g)
            (λ x lt. ap (λ k. m (get_or after k d)) (sym (add_assoc to (n * s.width) x)) ∙ did.levels f still x d lt)
            p.row r p.column c;
        kept = λ k d out. did.kept k d (omega arith) ∙ was.kept k d out;
      }
