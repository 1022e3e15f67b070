-- The mirrored recipe is answered alike.
use Rattle.std.proofs.Common.{◌≡◌, ℕ, zero, suc, ◌+◌, ◌*◌, ◌/◌, ◌%◌, ◌<◌, ◌≤◌, max, Bool, true, false, not, ◌&&◌, ◌||◌, eqb, ltb, leb, List, [], ◌∷◌, map, length, get_or, drop, Some, None, sym, refl, ap, ◌∙◌, subst, ap₂, ⊎_elim, le_of_suc-le-suc, not-suc-le-zero, lt-suc_self, eq-or-lt_of_le, arith, length-set}
use lib.ListN.{length-map}
use Rattle.std.proofs.lemmas.List.{get_or-set_same, get_or-set_other, get_or-take, get_or-drop, ext_get_or}
use Rattle.std.proofs.lemmas.Bool.{cases_eq, cases_lt}
use Rattle.level.specs.declared.side.Side.TheVariants.{Low, High}
use Rattle.recipe.specs.declared.element.Element.{Element}
use Rattle.recipe.specs.declared.step.Step.{Step}
use Rattle.recipe.specs.declared.step.Step.TheVariants.{Frame, Negate, Erode, Dilate, Open, Close, Meet, Join, MeanLow, MeanHigh, SelectLow, SelectHigh}
use Rattle.recipe.specs.declared.entry.Entry.{Entry}
use Rattle.recipe.specs.declared.fault.Layer.TheVariants.{Record, Plan}
use Rattle.recipe.specs.declared.fault.Refusal.{Refusal}
use Rattle.recipe.specs.Elements.{is_element}
use Rattle.recipe.specs.Steps.{Change, negation, folding, filtering, selecting, Merge, bounding, averaging, Form, start, change, merge, form, wants, reads_ranks, adds, mirror_step, mirror_change, mirror_merge, mirror_form}
use Rattle.recipe.specs.Machines.{by_form, stepped}
use Rattle.recipe.specs.Sheets.{after, of_two, on_entries, sheet_of}
use Rattle.recipe.specs.Refusals.{refusal}
use Rattle.recipe.specs.Plans.{Answer, given, refused, unless, next, mapped, record_at, kind, element, has_element, padded, named, step_of, unknown_kind, not_zero, bad_element, reads, Progress, grown, lacks_ranks, lacks_planes, lacks_room, placed, walked, nothing, right_length, finished, checked, steps_from, steps_of}
use Rattle.recipe.specs.Mirrors.{opposite_kind, exchanged, mirror, Mirrored, mirror_sheet, mirror_answer}
use Rattle.recipe.specs.Laws.{MirrorLaw}

-- The bytes.

exchanged_length : (n : ℕ) (bytes : List ℕ) → length (exchanged n bytes) ≡ length bytes
exchanged_length zero bytes = refl
exchanged_length (suc n) bytes = length-set (exchanged n bytes) (8 * n) _ ∙ exchanged_length n bytes

pub exchanged_other : (n : ℕ) (bytes : List ℕ) (k : ℕ) → ((i : ℕ) → i < n → k ≡ 8 * i → ⊥) → get_or (exchanged n bytes) k 0 ≡ get_or bytes k 0
exchanged_other zero bytes k h = refl
exchanged_other (suc n) bytes k h =
    get_or-set_other (exchanged n bytes) (8 * n) k _ 0 (h n (lt-suc_self n)) ∙ exchanged_other n bytes k (λ i l. h i (omega arith))

exchanged_kind :
    (n : ℕ) (bytes : List ℕ) → 8 * n ≤ length bytes → (i : ℕ) → i < n →
    get_or (exchanged n bytes) (8 * i) 0 ≡ opposite_kind (get_or bytes (8 * i) 0)
exchanged_kind zero bytes long i l = absurd (not-suc-le-zero l)
exchanged_kind (suc n) bytes long i l =
    ⊎_elim
    (λ e. let here : 8 * n < length (exchanged n bytes) = omega (arith, exchanged_length n bytes) in
    ap (λ j. get_or (exchanged (suc n) bytes) (8 * j) 0) e
    ∙ (get_or-set_same (exchanged n bytes) (8 * n) _ 0 here ∙ ap (λ j. opposite_kind (get_or bytes (8 * j) 0)) (sym e)))
    (λ k. get_or-set_other (exchanged n bytes) (8 * n) (8 * i) _ 0 (λ e. let z : ⊥ = omega arith in z) ∙ exchanged_kind n bytes (omega arith) i k)
    (eq-or-lt_of_le (le_of_suc-le-suc l))

pub mirror_mirrored : (bytes : List ℕ) → Mirrored bytes (mirror bytes)
mirror_mirrored bytes = record {
  long = exchanged_length (length bytes / 8) bytes;
  kinds = exchanged_kind (length bytes / 8) bytes (omega arith);
  others = exchanged_other (length bytes / 8) bytes;
}

-- what the opposite of a kind has in common with it
record Opposes (k : ℕ) : Type 0 where
  known : (leb 1 (opposite_kind k) && leb (opposite_kind k) 12) ≡ (leb 1 k && leb k 12)
  elemental : has_element (opposite_kind k) ≡ has_element k
  step : (e : Element) → named (opposite_kind k) e ≡ mirror_step (named k e)
  back : opposite_kind (opposite_kind k) ≡ k

opposes : (k : ℕ) → Opposes k
opposes zero = record { known = refl; elemental = refl; step = λ e. refl; back = refl }
opposes (suc zero) = record { known = refl; elemental = refl; step = λ e. refl; back = refl }
opposes (suc (suc zero)) = record { known = refl; elemental = refl; step = λ e. refl; back = refl }
opposes (suc (suc (suc zero))) = record { known = refl; elemental = refl; step = λ e. refl; back = refl }
opposes (suc (suc (suc (suc zero)))) = record { known = refl; elemental = refl; step = λ e. refl; back = refl }
opposes (suc (suc (suc (suc (suc zero))))) = record { known = refl; elemental = refl; step = λ e. refl; back = refl }
opposes (suc (suc (suc (suc (suc (suc zero)))))) = record { known = refl; elemental = refl; step = λ e. refl; back = refl }
opposes (suc (suc (suc (suc (suc (suc (suc zero))))))) = record { known = refl; elemental = refl; step = λ e. refl; back = refl }
opposes (suc (suc (suc (suc (suc (suc (suc (suc zero)))))))) = record { known = refl; elemental = refl; step = λ e. refl; back = refl }
opposes (suc (suc (suc (suc (suc (suc (suc (suc (suc zero))))))))) = record { known = refl; elemental = refl; step = λ e. refl; back = refl }
opposes (suc (suc (suc (suc (suc (suc (suc (suc (suc (suc zero)))))))))) = record { known = refl; elemental = refl; step = λ e. refl; back = refl }
opposes (suc (suc (suc (suc (suc (suc (suc (suc (suc (suc (suc zero))))))))))) = record { known = refl; elemental = refl; step = λ e. refl; back = refl }
opposes (suc (suc (suc (suc (suc (suc (suc (suc (suc (suc (suc (suc zero)))))))))))) = record { known = refl; elemental = refl; step = λ e. refl; back = refl }
opposes (suc (suc (suc (suc (suc (suc (suc (suc (suc (suc (suc (suc (suc k))))))))))))) = record { known = refl; elemental = refl; step = λ e. refl; back = refl }

-- twice mirrored is the recipe itself
back_again : (a b c : List ℕ) → Mirrored a b → Mirrored b c → c ≡ a
back_again a b c m n = ext_get_or 0 c a (n.long ∙ m.long) (λ k _. byte k)
  where
    same : length b / 8 ≡ length a / 8
    same = ap (λ l. l / 8) m.long

    kept : (k : ℕ) → ((i : ℕ) → i < length a / 8 → k ≡ 8 * i → ⊥) → get_or c k 0 ≡ get_or a k 0
    kept k h = n.others k (λ i l. h i (omega arith)) ∙ m.others k h

    byte : (k : ℕ) → get_or c k 0 ≡ get_or a k 0
    byte k =
        ⊎_elim
        (λ e. ⊎_elim
        (λ l. let at : 8 * (k / 8) ≡ k = omega arith in
        subst (λ j. get_or c j 0 ≡ get_or a j 0) at
        (n.kinds (k / 8) (omega arith) ∙ (ap opposite_kind (m.kinds (k / 8) l) ∙ (opposes (get_or a (8 * (k / 8)) 0)).back)))
        (λ l. kept k (λ i j e. let z : ⊥ = omega arith in z))
        (cases_lt (k / 8) (length a / 8)))
        (λ e. kept k (λ i j q. e (omega arith)))
        (cases_eq (k % 8) 0)

-- Answers.

mapped_unless : {A B : Type 0} (f : A → B) (t : Bool) (r : Refusal) (x : Answer A) → mapped f (unless t r x) ≡ unless t r (mapped f x)
mapped_unless f true r x = refl
mapped_unless f false r x = refl

mapped_next :
    {A B C D : Type 0} (f : A → B) (g : C → D) (a : Answer A) (F : A → Answer C) (G : B → Answer D) →
    ((x : A) → G (f x) ≡ mapped g (F x)) → next (mapped f a) G ≡ mapped g (next a F)
mapped_next f g (given x) F G h = h x
mapped_next f g (refused r) F G h = refl

mapped_thrice :
    {A B : Type 0} (f : A → B) (t u v : Bool) (p q r : Refusal) (x : A) →
    mapped f (unless t p (unless u q (unless v r (given x)))) ≡ unless t p (unless u q (unless v r (given (f x))))
mapped_thrice f t u v p q r x =
    mapped_unless f t p (unless u q (unless v r (given x)))
    ∙ ap (unless t p) (mapped_unless f u q (unless v r (given x)) ∙ ap (unless u q) (mapped_unless f v r (given x)))

-- One record.
module _ (i : ℕ) (r r' : List ℕ) (opposed : kind r' ≡ opposite_kind (kind r)) (rest : (k : ℕ) → 1 ≤ k → k < 8 → get_or r' k 0 ≡ get_or r k 0) where
  same_element : element r' ≡ element r
  same_element = λ j.
      rest 1 (omega arith) (omega arith) j + rest 2 (omega arith) (omega arith) j * 256 + rest 3 (omega arith) (omega arith) j * 65536
      + rest 4 (omega arith) (omega arith) j * 16777216

  same_elemental : has_element (kind r') ≡ has_element (kind r)
  same_elemental = ap has_element opposed ∙ (opposes (kind r)).elemental

  same_padded : padded r' ≡ padded r
  same_padded = λ j.
      eqb (rest 5 (omega arith) (omega arith) j) 0
      && (eqb (rest 6 (omega arith) (omega arith) j) 0
      && (eqb (rest 7 (omega arith) (omega arith) j) 0 && (same_elemental j || eqb (same_element j) 0)))

  mirrored_step : step_of r' ≡ mirror_step (step_of r)
  mirrored_step =
      ap₂ (λ (k n : ℕ). named k (record { bits = n })) opposed same_element ∙ (opposes (kind r)).step (record { bits = element r })

  reads_mirror : reads i r' ≡ mapped mirror_step (reads i r)
  reads_mirror =
      (λ j.
      unless (not ((ap (λ k. leb 1 k && leb k 12) opposed ∙ (opposes (kind r)).known) j)) (refusal 12 Record (Some i))
      (unless (not (same_padded j)) (refusal 13 Record (Some i))
      (unless (same_elemental j && not (is_element (same_element j))) (refusal 14 Record (Some i)) (given (mirrored_step j)))))
      ∙ sym (mapped_thrice mirror_step (unknown_kind r) (not_zero r) (bad_element r) _ _ _ (step_of r))

-- The entries.

-- B and D change places
abbrev mirror_entry : Entry → Entry
mirror_entry e = record { reach = e.reach; below = e.above; above = e.below; keeps = e.keeps; turns = e.turns; within = e.within; chain = e.chain }

after_mirror : (c : Change) (e : Entry) → after (mirror_change c) (mirror_entry e) ≡ mirror_entry (after c e)
after_mirror negation e = refl
after_mirror (folding Low n) e = refl
after_mirror (folding High n) e = refl
after_mirror (filtering Low n) e = refl
after_mirror (filtering High n) e = refl
after_mirror (selecting Low n) e = refl
after_mirror (selecting High n) e = refl

two_mirror : (m : Merge) (a b : Entry) → of_two (mirror_merge m) (mirror_entry a) (mirror_entry b) ≡ mirror_entry (of_two m a b)
two_mirror (bounding Low) a b = refl
two_mirror (bounding High) a b = refl
two_mirror (averaging Low) a b = refl
two_mirror (averaging High) a b = refl

pub form_mirror : (x : Step) → form (mirror_step x) ≡ mirror_form (form x)
form_mirror Frame = refl
form_mirror Negate = refl
form_mirror (Erode e) = refl
form_mirror (Dilate e) = refl
form_mirror (Open e) = refl
form_mirror (Close e) = refl
form_mirror Meet = refl
form_mirror Join = refl
form_mirror MeanLow = refl
form_mirror MeanHigh = refl
form_mirror (SelectLow e) = refl
form_mirror (SelectHigh e) = refl

wants_mirror : (f : Form) → wants (mirror_form f) ≡ wants f
wants_mirror start = refl
wants_mirror (change c) = refl
wants_mirror (merge m) = refl

adds_mirror : (f : Form) → adds (mirror_form f) ≡ adds f
adds_mirror start = refl
adds_mirror (change c) = refl
adds_mirror (merge m) = refl

pub ranks_mirror : (f : Form) → reads_ranks (mirror_form f) ≡ reads_ranks f
ranks_mirror start = refl
ranks_mirror (change negation) = refl
ranks_mirror (change (folding d n)) = refl
ranks_mirror (change (filtering d n)) = refl
ranks_mirror (change (selecting d n)) = refl
ranks_mirror (merge (bounding d)) = refl
ranks_mirror (merge (averaging d)) = refl

by_form_mirror : (f : Form) (st : List Entry) → by_form on_entries (mirror_form f) (map mirror_entry st) ≡ map mirror_entry (by_form on_entries f st)
by_form_mirror start st = refl
by_form_mirror (change c) [] = refl
by_form_mirror (change c) (a ∷ st) = ap (λ e. e ∷ map mirror_entry st) (after_mirror c a)
by_form_mirror (merge m) [] = refl
by_form_mirror (merge m) (a ∷ []) = refl
by_form_mirror (merge m) (a ∷ b ∷ st) = ap (λ e. e ∷ map mirror_entry st) (two_mirror m b a)

abbrev mirror_progress : Progress → Progress
mirror_progress t = record { entries = map mirror_entry t.entries; planes = t.planes }

stepped_mirror : (x : Step) (st : List Entry) → stepped on_entries (mirror_step x) (map mirror_entry st) ≡ map mirror_entry (stepped on_entries x st)
stepped_mirror x st = ap (λ f. by_form on_entries f (map mirror_entry st)) (form_mirror x) ∙ by_form_mirror (form x) st

grown_mirror : (x : Step) (t : Progress) → grown (mirror_step x) (mirror_progress t) ≡ mirror_progress (grown x t)
grown_mirror x t =
    let e = stepped_mirror x t.entries in
    let d = ap length e ∙ length-map (stepped on_entries x t.entries) mirror_entry in
    λ j. record { entries = e j; planes = max t.planes (d j) }

placed_mirror : (ranked : Bool) (i : ℕ) (x : Step) (t : Progress) → placed ranked i (mirror_step x) (mirror_progress t) ≡ mapped mirror_progress (placed ranked i x t)
placed_mirror ranked i x t =
    let d = length-map t.entries mirror_entry in
    let f = form_mirror x in
    let ranks = ap reads_ranks f ∙ ranks_mirror (form x) in
    let planes = ap wants f ∙ wants_mirror (form x) in
    let room = ap adds f ∙ adds_mirror (form x) in
    let grows = grown_mirror x t in
    (λ j.
    unless (ranks j && not ranked) (refusal 15 Plan (Some i))
    (unless (ltb (d j) (planes j)) (refusal 16 Plan (Some i)) (unless (room j && leb 4 (d j)) (refusal 17 Plan (Some i)) (given (grows j)))))
    ∙ sym (mapped_thrice mirror_progress (lacks_ranks ranked x) (lacks_planes (length t.entries) x) (lacks_room (length t.entries) x) _ _ _ (grown x t))

-- The recipe.
module _ (ranked : Bool) (bytes : List ℕ) where
  record_byte : (b : List ℕ) (i k : ℕ) → k < 8 → get_or (record_at b i) k 0 ≡ get_or b (8 * i + k) 0
  record_byte b i k l = get_or-take 8 (drop (8 * i) b) k 0 l ∙ get_or-drop (8 * i) b k 0

  record_kind : (i : ℕ) → i < length bytes / 8 → kind (record_at (mirror bytes) i) ≡ opposite_kind (kind (record_at bytes i))
  record_kind i l =
      let z : 8 * i + 0 ≡ 8 * i = omega arith in
      record_byte (mirror bytes) i 0 (omega arith)
      ∙ (ap (λ k. get_or (mirror bytes) k 0) z
      ∙ ((mirror_mirrored bytes).kinds i l ∙ ap opposite_kind (ap (λ k. get_or bytes k 0) (sym z) ∙ sym (record_byte bytes i 0 (omega arith)))))

  record_rest : (i k : ℕ) → 1 ≤ k → k < 8 → get_or (record_at (mirror bytes) i) k 0 ≡ get_or (record_at bytes i) k 0
  record_rest i k some few =
      record_byte (mirror bytes) i k few
      ∙ ((mirror_mirrored bytes).others (8 * i + k) (λ j l e. let z : ⊥ = omega arith in z) ∙ sym (record_byte bytes i k few))

  walked_mirror :
      (n i : ℕ) (t : Progress) → i + n ≤ length bytes / 8 →
      walked ranked (mirror bytes) n i (mirror_progress t) ≡ mapped mirror_progress (walked ranked bytes n i t)
  walked_mirror zero i t l = refl
  walked_mirror (suc n) i t l =
      let F' : Step → Answer Progress = λ x. next (placed ranked i x (mirror_progress t)) (λ u. walked ranked (mirror bytes) n (i + 1) u) in
      let F : Step → Answer Progress = λ x. next (placed ranked i x t) (λ u. walked ranked bytes n (i + 1) u) in
      ap (λ a. next a F') (reads_mirror i (record_at bytes i) (record_at (mirror bytes) i) (record_kind i (omega arith)) (record_rest i))
      ∙ mapped_next mirror_step mirror_progress (reads i (record_at bytes i)) F F'
      (λ x. ap (λ a. next a (λ u. walked ranked (mirror bytes) n (i + 1) u)) (placed_mirror ranked i x t)
      ∙ mapped_next mirror_progress mirror_progress (placed ranked i x t) (λ u. walked ranked bytes n (i + 1) u) (λ u. walked ranked (mirror bytes) n (i + 1) u)
      (λ u. walked_mirror n (i + 1) u (omega arith)))

  steps_from_mirror : (n i : ℕ) → i + n ≤ length bytes / 8 → steps_from (mirror bytes) n i ≡ map mirror_step (steps_from bytes n i)
  steps_from_mirror zero i l = refl
  steps_from_mirror (suc n) i l =
      ap₂ ◌∷◌ (mirrored_step i (record_at bytes i) (record_at (mirror bytes) i) (record_kind i (omega arith)) (record_rest i))
      (steps_from_mirror n (i + 1) (omega arith))

  sheet_mirror : (p : ℕ) (st : List Entry) → sheet_of p (map mirror_entry st) ≡ mirror_sheet (sheet_of p st)
  sheet_mirror p [] = refl
  sheet_mirror p (e ∷ st) = refl

  finished_mirror : (t : Progress) → finished (mirror_progress t) ≡ mapped mirror_sheet (finished t)
  finished_mirror t =
      (λ j. unless (ltb 1 (length-map t.entries mirror_entry j)) (refusal 18 Plan None) (given (sheet_mirror t.planes t.entries j)))
      ∙ sym (mapped_unless mirror_sheet (ltb 1 (length t.entries)) (refusal 18 Plan None) (given (sheet_of t.planes t.entries)))

  checked_mirror : checked ranked (mirror bytes) ≡ mirror_answer (checked ranked bytes)
  checked_mirror =
      let long = (mirror_mirrored bytes).long in
      let inner =
      ap (λ a. next a finished) (ap (λ n. walked ranked (mirror bytes) n 0 nothing) (ap (λ n. n / 8) long) ∙ walked_mirror (length bytes / 8) 0 nothing (omega arith))
      ∙ mapped_next mirror_progress mirror_sheet (walked ranked bytes (length bytes / 8) 0 nothing) finished finished finished_mirror in
      (λ j. unless (not (right_length (long j))) (refusal 11 Plan None) (inner j))
      ∙ sym (mapped_unless mirror_sheet (not (right_length (length bytes))) (refusal 11 Plan None) (next (walked ranked bytes (length bytes / 8) 0 nothing) finished))

pub mirror_law : MirrorLaw
mirror_law ranked bytes = record {
  twice = back_again bytes (mirror bytes) (mirror (mirror bytes)) (mirror_mirrored bytes) (mirror_mirrored (mirror bytes));
  answered = checked_mirror ranked bytes;
}

-- the mirrored recipe has the mirrored steps
pub steps_mirror : (bytes : List ℕ) → steps_of (mirror bytes) ≡ map mirror_step (steps_of bytes)
steps_mirror bytes =
    ap (λ n. steps_from (mirror bytes) (n / 8) 0) (mirror_mirrored bytes).long ∙ steps_from_mirror true bytes (length bytes / 8) 0 (omega arith)
