-- A loop that writes n levels of a block one after the other.
use Rattle.std.proofs.Common.{◌≡◌, ℕ, ◌+◌, ◌*◌, ◌<◌, ◌≤◌, ◌≢◌, List, length, get_or, set, sym, refl, ap, ◌∙◌, subst, inl, inr, ⊎_elim, arith, below_more, rules}
use Rattle.std.proofs.lemmas.Bool.{cases_lt}
use Rattle.std.proofs.lemmas.Nat.{mul-le}
use Rattle.std.proofs.lemmas.List.{get_or-set_same, get_or-set_other, get_or_read, places as by_places}
use borrow.Rule.Slice.PartMut.{mid_of, put_mid}
use Rattle.level.specs.Kind.{Kind}
use Rattle.steps.specs.Images.{Size, Place, Inside, Image}
use Rattle.steps.specs.Planes.{places, index, Holds, Outside, Kept, Apart, Made}

-- The first i of the n levels from `to` on are as wanted; the others are as they were.
pub record Partly {X : Type 0} (wanted : X → ℕ → X → Type 0) (to n : ℕ) (before : List X) (i : ℕ) (now : List X) : Type 0 where
  pub done : (k : ℕ) (d : X) → k < i → wanted d k (get_or now (to + k) d)
  pub rest : (k : ℕ) (d : X) → i ≤ k → get_or now (to + k) d ≡ get_or before (to + k) d
  pub kept : Kept to n before now

module _ {X : Type 0} {wanted : X → ℕ → X → Type 0} {to n : ℕ} {before : List X} where
  -- the first levels may stay
  pub partly_from : (i : ℕ) → ((k : ℕ) (d : X) → k < i → wanted d k (get_or before (to + k) d)) → Partly wanted to n before i before
  partly_from i stay = record { done = stay; rest = λ k d h. refl; kept = λ k d h. refl }

  pub partly_none : Partly wanted to n before 0 before
  partly_none = partly_from 0 (λ k d h. absurd (omega arith))

  pub partly_more : (i : ℕ) (now : List X) (r : X) → Partly wanted to n before i now → i < n → to + n ≤ length now → ((d : X) → wanted d i r) →
      Partly wanted to n before (i + 1) (set now (to + i) r)
  partly_more i now r was lt room new = record {
    done = λ k d h. below_more (λ j. wanted d j (get_or (set now (to + i) r) (to + j) d)) i
        (λ j g. let ne : to + j ≢ to + i = omega arith in subst (wanted d j) (sym (get_or-set_other now (to + i) (to + j) r d ne)) (was.done j d g))
        (subst (wanted d i) (sym (get_or-set_same now (to + i) r d (omega arith))) (new d))
        k h;
    rest = λ k d h. let ne : to + k ≢ to + i = omega arith in get_or-set_other now (to + i) (to + k) r d ne ∙ was.rest k d (omega arith);
    kept = λ k d out. let ne : k ≢ to + i = (λ e. out (omega arith) (omega arith)) in get_or-set_other now (to + i) k r d ne ∙ was.kept k d out;
  }

  -- a level that is read where the loop has not yet written
  pub read_rest : (i : ℕ) (now : List X) (a d : X) → Partly wanted to n before i now → to + i < length now → a ≡ get_or now (to + i) a → a ≡ get_or before (to + i) d
  read_rest i now a d was room e = get_or_read now (to + i) a room e d ∙ was.rest i d (omega arith)

  -- a level that is read outside the part that the loop writes
  pub read_kept : (i j : ℕ) (now : List X) (a d : X) → Partly wanted to n before i now → j < length now → Outside to n j → a ≡ get_or now j a → a ≡ get_or before j d
  read_kept i j now a d was room out e = get_or_read now j a room e d ∙ was.kept j d out

-- Where a place's level stands.
pub row_fits : (w h r : ℕ) → r < h → r * w + w ≤ w * h
row_fits w h r lt = omega (arith, mul-le (r + 1) w h w (omega arith) (omega arith))

pub index_fits : (s : Size) (p : Place) → Inside s p → index s p < places s
index_fits s p i = let c = i.0 in omega (arith, row_fits s.width s.height p.row i.1)

-- an image stays where no level of its plane is written
pub holds_kept : (K : Kind) {X : Type 0} (m : X → K.Level) (s : Size) (at to n : ℕ) (before after : List X) (f : Image K) →
    ((k : ℕ) → k < places s → Outside to n (at + k)) → Kept to n before after → Holds K m s before at f → Holds K m s after at f
holds_kept K m s at to n before after f out kept held p d i = ap m (kept (at + index s p) d (out (index s p) (index_fits s p i))) ∙ held p d i

-- two parts that do not overlap
pub apart_out : (long from to m n : ℕ) → Apart long from m to n → (k : ℕ) → k < m → Outside to n (from + k)
apart_out long from to m n p k lt = ⊎_elim (λ l. omega arith) (λ l. omega arith) p.apart

pub apart_back : (long a m b n : ℕ) → Apart long a m b n → Apart long b n a m
apart_back long a m b n p = record { first = p.second; second = p.first; apart = ⊎_elim inr inl p.apart }

-- A part of a block that a loop writes through a loan of its own.
module _ {X : Type 0} (at n : ℕ) (block part : List X) (fits : at + n ≤ length block) where
  pub part_lent : (k : ℕ) (d : X) → k < n → get_or (mid_of at n block) k d ≡ get_or block (at + k) d
  part_lent k d lt = search (rules, by_places)

  pub part_back : (k : ℕ) (d : X) → length part ≡ n → k < n → get_or (put_mid at n block part) (at + k) d ≡ get_or part k d
  part_back k d long lt = search (rules, by_places)

  part_below : (k : ℕ) (d : X) → length part ≡ n → k < at → get_or (put_mid at n block part) k d ≡ get_or block k d
  part_below k d long lt = search (rules, by_places)

  part_above : (k : ℕ) (d : X) → length part ≡ n → at + n ≤ k → get_or (put_mid at n block part) k d ≡ get_or block k d
  part_above k d long le = search (rules, by_places)

  pub part_kept : length part ≡ n → Kept at n block (put_mid at n block part)
  part_kept long k d out = ⊎_elim (λ l. part_below k d long l) (λ l. part_above k d long (⊎_elim (λ h. absurd (out l h)) (λ h. h) (cases_lt k (at + n)))) (cases_lt k at)

  -- a plane each of whose levels comes from the one at its place
  pub part_made : (K : Kind) (m : X → K.Level) (s : Size) (op : K.Level → K.Level) → n ≡ places s → length part ≡ n →
      ((k : ℕ) (d : X) → k < n → m (get_or part k d) ≡ op (m (get_or (mid_of at n block) k d))) → Made K m s (λ f p. op (f p)) at at block (put_mid at n block part)
  part_made K m s op e long each = record {
    made = λ f held p d i.
        let lt : index s p < n = let fits = index_fits s p i in omega arith in
        ap m (part_back (index s p) d long lt) ∙ (each (index s p) d lt ∙ ap op (ap m (part_lent (index s p) d lt) ∙ held p d i));
    kept = λ k d out. part_kept long k d (λ a b. out a (omega arith));
  }
