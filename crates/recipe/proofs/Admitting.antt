-- The check answers the first condition that holds, and else the sheet.
use Rattle.std.proofs.Common.{◌≡◌, ℕ, zero, suc, ◌+◌, ◌/◌, ◌≤◌, max, Bool, true, false, not, ltb, List, [], ◌∷◌, ◌++◌, length, Some, None, sym, refl, ap, ◌∙◌, ap₂, add-one, arith}
use Rattle.std.specs.List.{AllByRecursion as Every}
use Rattle.recipe.specs.declared.entry.Entry.{Entry}
use Rattle.recipe.specs.declared.entry.Sheet.{Sheet}
use Rattle.recipe.specs.declared.fault.Layer.TheVariants.{Plan}
use Rattle.recipe.specs.declared.fault.Refusal.{Refusal}
use Rattle.recipe.specs.declared.step.Step.{Step}
use Rattle.recipe.specs.Machines.{stepped, run}
use Rattle.recipe.specs.Sheets.{on_entries, sheet_of}
use Rattle.recipe.specs.Refusals.{refusal}
use Rattle.recipe.specs.Plans.{Answer, given, refused, unless, next, record_at, step_of, steps_from, steps_of, unknown_kind, not_zero, bad_element, Progress, grown, lacks_ranks, lacks_planes, lacks_room, placed, walked, nothing, right_length, finished, checked}
use Rattle.recipe.specs.Laws.{Condition, when, stack_before, of_record, of_records, conditions, deepest, sheet_from, Unmet, First, AdmissionLaw}
use Rattle.recipe.proofs.Checking.{steps_push, same_given}
use Rattle.recipe.proofs.Machining.{run_after}

-- the answer of the first condition that holds, else a
abbrev first_of : {A : Type 0} → List Condition → Answer A → Answer A
first_of [] a = a
first_of (c ∷ cs) a = unless c.holds c.answer (first_of cs a)

first_of_more : {A : Type 0} (cs ds : List Condition) (a : Answer A) → first_of (cs ++ ds) a ≡ first_of cs (first_of ds a)
first_of_more [] ds a = refl
first_of_more (c ∷ cs) ds a = ap (unless c.holds c.answer) (first_of_more cs ds a)

next_unless : {A B : Type 0} (t : Bool) (r : Refusal) (x : Answer A) (F : A → Answer B) → next (unless t r x) F ≡ unless t r (next x F)
next_unless true r x F = refl
next_unless false r x F = refl

next_first : {A B : Type 0} (cs : List Condition) (x : Answer A) (F : A → Answer B) → next (first_of cs x) F ≡ first_of cs (next x F)
next_first [] x F = refl
next_first (c ∷ cs) x F = next_unless c.holds c.answer (first_of cs x) F ∙ ap (unless c.holds c.answer) (next_first cs x F)

next_thrice :
    {A B : Type 0} (t u v : Bool) (p q r : Refusal) (x : A) (F : A → Answer B) →
    next (unless t p (unless u q (unless v r (given x)))) F ≡ unless t p (unless u q (unless v r (F x)))
next_thrice t u v p q r x F =
    next_unless t p (unless u q (unless v r (given x))) F
    ∙ ap (unless t p) (next_unless u q (unless v r (given x)) F ∙ ap (unless u q) (next_unless v r (given x) F))

-- all steps placed, with no check
abbrev grow_all : List Step → Progress → Progress
grow_all [] t = t
grow_all (x ∷ xs) t = grow_all xs (grown x t)

grow_entries : (xs : List Step) (t : Progress) → (grow_all xs t).entries ≡ run on_entries xs t.entries
grow_entries [] t = refl
grow_entries (x ∷ xs) t = grow_entries xs (grown x t)

deepest_least : (xs : List Step) (st : List Entry) → length st ≤ deepest xs st
deepest_least [] st = omega arith
deepest_least (x ∷ xs) st = omega arith

grow_planes : (xs : List Step) (t : Progress) → length t.entries ≤ t.planes → (grow_all xs t).planes ≡ max t.planes (deepest xs t.entries)
grow_planes [] t l = omega arith
grow_planes (x ∷ xs) t l =
    let st = stepped on_entries x t.entries in
    let ih = grow_planes xs (grown x t) (omega arith) in
    omega (arith, ih, deepest_least xs st)

-- the stack before the next record
stack_next : (bytes : List ℕ) (i : ℕ) → stack_before bytes (i + 1) ≡ stepped on_entries (step_of (record_at bytes i)) (stack_before bytes i)
stack_next bytes i =
    let z : 0 + i ≡ i = omega arith in
    ap (λ n. run on_entries (steps_from bytes n 0) []) (add-one i)
    ∙ (ap (λ xs. run on_entries xs []) (steps_push bytes i 0 ∙ ap (λ j. steps_from bytes i 0 ++ (step_of (record_at bytes j) ∷ [])) z)
    ∙ run_after on_entries (steps_from bytes i 0) (step_of (record_at bytes i) ∷ []) [])

module _ (ranked : Bool) (bytes : List ℕ) where
  walked_first :
      (n i : ℕ) (t : Progress) → t.entries ≡ stack_before bytes i →
      walked ranked bytes n i t ≡ first_of (of_records ranked bytes n i) (given (grow_all (steps_from bytes n i) t))
  walked_first zero i t e = refl
  walked_first (suc n) i t e =
      let r = record_at bytes i in
      let x = step_of r in
      let W : Progress → Answer Progress = λ u. walked ranked bytes n (i + 1) u in
      let d = ap length e in
      let rest = walked_first n (i + 1) (grown x t) (ap (stepped on_entries x) e ∙ sym (stack_next bytes i)) in
      let goes = given (grow_all (steps_from bytes n (i + 1)) (grown x t)) in
      next_thrice (unknown_kind r) (not_zero r) (bad_element r) _ _ _ x (λ x. next (placed ranked i x t) W)
      ∙ (ap (first_of (when (unknown_kind r) _ ∷ when (not_zero r) _ ∷ when (bad_element r) _ ∷ []))
      (next_thrice (lacks_ranks ranked x) (lacks_planes (length t.entries) x) (lacks_room (length t.entries) x) _ _ _ (grown x t) W
      ∙ ap₂ (λ k a. unless (lacks_ranks ranked x) (refusal 15 Plan (Some i)) (unless (lacks_planes k x) (refusal 16 Plan (Some i)) (unless (lacks_room k x) (refusal 17 Plan (Some i)) a))) d rest)
      ∙ sym (first_of_more (of_record ranked i r (length (stack_before bytes i))) (of_records ranked bytes n (i + 1)) goes))

  checked_first : checked ranked bytes ≡ first_of (conditions ranked bytes) (given (sheet_from (steps_of bytes)))
  checked_first =
      let n = length bytes / 8 in
      let t = grow_all (steps_of bytes) nothing in
      let entries = grow_entries (steps_of bytes) nothing in
      let planes : t.planes ≡ deepest (steps_of bytes) [] = omega (arith, grow_planes (steps_of bytes) nothing (omega arith)) in
      let end : finished t ≡ first_of (when (ltb 1 (length (stack_before bytes n))) (refusal 18 Plan None) ∷ []) (given (sheet_from (steps_of bytes)))
      = λ j. unless (ltb 1 (length (entries j))) (refusal 18 Plan None) (given (sheet_of (planes j) (entries j))) in
      ap (unless (not (right_length (length bytes))) (refusal 11 Plan None))
      (ap (λ a. next a finished) (walked_first n 0 nothing refl)
      ∙ (next_first (of_records ranked bytes n 0) (given t) finished
      ∙ (ap (first_of (of_records ranked bytes n 0)) end
      ∙ sym (first_of_more (of_records ranked bytes n 0) (when (ltb 1 (length (stack_before bytes n))) (refusal 18 Plan None) ∷ []) (given (sheet_from (steps_of bytes)))))))

-- What that says of the conditions.

all_unmet : {A : Type 0} (cs : List Condition) (a : Answer A) → Every Unmet cs → first_of cs a ≡ a
all_unmet [] a h = refl
all_unmet (c ∷ cs) a h = ap (λ t. unless t c.answer (first_of cs a)) h.0 ∙ all_unmet cs a h.1

given_unmet : {A : Type 0} (cs : List Condition) (x y : A) → first_of cs (given x) ≡ given y → Every Unmet cs
given_unmet [] x y e = tt
given_unmet (c ∷ cs) x y e = pick c.holds refl e (given_unmet cs x y)
  where
    pick : (t : Bool) → c.holds ≡ t → unless t c.answer (first_of cs (given x)) ≡ given y → (first_of cs (given x) ≡ given y → Every Unmet cs) → Every Unmet (c ∷ cs)
    pick true h e ih = absurd (let z : ◌≡◌ {A = ℕ} 0 1 = cc in omega arith)
    pick false h e ih = (h, ih e)

same_refused : {A : Type 0} (p q : Refusal) → ◌≡◌ {A = Answer A} (refused p) (refused q) → p ≡ q
same_refused p q e = cc

refused_first : {A : Type 0} (cs : List Condition) (x : A) (r : Refusal) → first_of cs (given x) ≡ refused r → First cs r
refused_first [] x r e = absurd (let z : ◌≡◌ {A = ℕ} 0 1 = cc in omega arith)
refused_first {A} (c ∷ cs) x r e = pick c.holds refl e (refused_first cs x r)
  where
    pick : (t : Bool) → c.holds ≡ t → unless t c.answer (first_of cs (given x)) ≡ refused r → (first_of cs (given x) ≡ refused r → First cs r) → First (c ∷ cs) r
    pick true h e ih = record {
      before = [];
      after = cs;
      split = ap (λ d. d ∷ cs) (λ i. record { holds = h i; answer = same_refused {A = A} c.answer r e i });
      passed = tt;
    }
    pick false h e ih =
        let f = ih e in
        record { before = c ∷ f.before; after = f.after; split = ap (◌∷◌ c) f.split; passed = (h, f.passed) }

first_refused : {A : Type 0} (cs : List Condition) (a : Answer A) (r : Refusal) → First cs r → first_of cs a ≡ refused r
first_refused cs a r f =
    ap (λ ds. first_of ds a) f.split
    ∙ (first_of_more f.before (when true r ∷ f.after) a ∙ all_unmet f.before (refused r) f.passed)

pub admission_law : AdmissionLaw
admission_law ranked bytes =
    let e = checked_first ranked bytes in
    let cs = conditions ranked bytes in
    let s = sheet_from (steps_of bytes) in
    record {
      admitted = λ h. e ∙ all_unmet cs (given s) h;
      unmet = λ x g. given_unmet cs s x (sym e ∙ g);
      first = λ r g. refused_first cs s r (sym e ∙ g);
      stopped = λ r f. e ∙ first_refused cs (given s) r f;
    }

-- the sheet that is given is that of the steps
pub sheet_is : (ranked : Bool) (bytes : List ℕ) (s : Sheet) → checked ranked bytes ≡ given s → s ≡ sheet_from (steps_of bytes)
sheet_is ranked bytes s e =
    let law = admission_law ranked bytes in
    same_given s (sheet_from (steps_of bytes)) (sym e ∙ law.admitted (law.unmet s e))
