-- The calls of one run, and what they answer together.
use Rattle.std.proofs.Common.{◌≡◌, ℕ, zero, suc, ◌+◌, ◌-◌, ◌/◌, ◌≤◌, min, Bool, true, false, not, eqb, List, [], ◌∷◌, length, sym, refl, ap, ◌∙◌, arith}
use Rattle.std.proofs.lemmas.Bool.{eq-eqb, ne_eqb, not_from_true}
use Rattle.std.proofs.lemmas.Bool.Decides.{nat_tests}
use Rattle.level.specs.Kind.{Kind}
use Rattle.rule.specs.Criterion.{Criterion}
use Rattle.recipe.specs.declared.entry.Sheet.{Sheet}
use Rattle.recipe.specs.declared.fault.Refusal.{Refusal}
use Rattle.recipe.specs.Plans.{Answer, given, refused, unless, next, right_length, checked, steps_from, steps_of}
use Rattle.recipe.proofs.Checking.{let_by, both_given}
use Rattle.cell.specs.Refusals.{of_cell}
use Rattle.cell.specs.Histories.{Admit, Lay, Steps, Take, event, History, Setting, pixels, works, housed, image_of, defined}
use Rattle.cell.proofs.Behinds.{passes}
use Rattle.cell.proofs.Sound.{passed}
use Rattle.controller.specs.Runs.{run_answer}

-- a recipe has a step for each of its records
steps_long : (bytes : List ℕ) (n i : ℕ) → length (steps_from bytes n i) ≡ n
steps_long bytes zero i = refl
steps_long bytes (suc n) i = ap suc (steps_long bytes n (i + 1))

-- a refusal where the test holds is that refusal, whatever would else be given
same_refusal : {A B : Type 0} (b : Bool) (q r : Refusal) (a : A) (x : Answer B) → refused r ≡ unless b q (given a) → refused r ≡ unless b q x
same_refusal true q r a x e = cc
same_refusal false q r a x e = absurd (let z : ◌≡◌ {A = ℕ} 0 1 = cc in omega arith)

some_bytes : (n : ℕ) → right_length n ≡ true → eqb n 0 ≡ false
some_bytes n e = ne_eqb n 0 (λ z. grind (arith, nat_tests))

module _ (K : Kind) (C : Criterion) (s : Setting) (bytes : List ℕ) (frame : List K.Level) (n : ℕ) where
  abbrev rest : Answer (List K.Level)
  rest =
      unless (not (eqb (length frame) (pixels s))) (of_cell 20)
      (unless (not (eqb n (pixels s))) (of_cell 20) (given (image_of K C s bytes frame)))

  -- a recipe that is refused
  pub not_admitted : (r : Refusal) → refused r ≡ defined K C s [] (Admit bytes) → refused r ≡ run_answer K C s bytes frame n
  not_admitted r e = ap (λ (a : Answer Sheet). next a (λ sheet. rest)) e

  module _ (sheet : Sheet) (took : given sheet ≡ defined K C s [] (Admit bytes)) where
    abbrev admitted : History K.Level
    admitted = event (Admit bytes) (given sheet) ∷ []

    pub working : works s ≡ true
    working = passed (works s) (let_by (not (works s)) (of_cell 1) _ sheet (sym took)).0

    pub has_sheet : (x : Sheet) × (checked K.ranked bytes ≡ given x)
    has_sheet =
        let a = let_by (not (works s)) (of_cell 1) (next (checked K.ranked bytes) (housed s)) sheet (sym took) in
        let c = both_given (checked K.ranked bytes) (housed s) sheet a.1 in (c.0, c.1)

    bytes_there : eqb (length bytes) 0 ≡ false
    bytes_there =
        some_bytes (length bytes) (passed (right_length (length bytes)) (let_by (not (right_length (length bytes))) _ _ has_sheet.0 has_sheet.1).0)

    goes_on : rest ≡ run_answer K C s bytes frame n
    goes_on = ap (λ (a : Answer Sheet). next a (λ sheet. rest)) took

    -- lengths that differ are not both right
    pub not_alike : (length frame ≡ n → ⊥) → refused (of_cell 20) ≡ run_answer K C s bytes frame n
    not_alike differ = wrong (eqb (length frame) (pixels s)) (eqb n (pixels s)) (λ p q. grind (arith, nat_tests)) ∙ goes_on
      where
        wrong : (a b : Bool) → (a ≡ true → b ≡ true → ⊥) → refused (of_cell 20) ≡ unless (not a) (of_cell 20) (unless (not b) (of_cell 20) (given (image_of K C s bytes frame)))
        wrong true true h = absurd (h refl refl)
        wrong true false h = refl
        wrong false b h = refl

    pub lay_answer : defined K C s admitted (Lay frame) ≡ unless (not (eqb (length frame) (pixels s))) (of_cell 20) (given tt)
    lay_answer = passes _ _ _ (not_from_true (works s) working) ∙ passes _ _ _ bytes_there

    -- a frame that is refused
    pub not_laid : (r : Refusal) → refused r ≡ defined K C s admitted (Lay frame) → refused r ≡ run_answer K C s bytes frame n
    not_laid r e = same_refusal _ (of_cell 20) r tt _ (e ∙ lay_answer) ∙ goes_on

    frame_fits : given tt ≡ defined K C s admitted (Lay frame) → not (eqb (length frame) (pixels s)) ≡ false
    frame_fits lies = (let_by (not (eqb (length frame) (pixels s))) (of_cell 20) (given tt) tt (sym (lies ∙ lay_answer))).0

    -- a frame that is laid fills a plane
    pub frame_long : given tt ≡ defined K C s admitted (Lay frame) → length frame ≡ pixels s
    frame_long lies = let fits = frame_fits lies in grind (arith, nat_tests)

    -- as many records are asked for as the recipe has, or more
    module _ (lies : given tt ≡ defined K C s admitted (Lay frame)) (count : ℕ) (enough : length bytes / 8 ≤ count) (a : Answer (ℕ × ℕ)) where
      abbrev laid : History K.Level
      laid = event (Lay frame) (given tt) ∷ admitted

      abbrev done : History K.Level
      done = event (Steps count) a ∷ laid

      pub take_answer : a ≡ defined K C s laid (Steps count) → defined K C s done (Take n) ≡ unless (not (eqb n (pixels s))) (of_cell 20) (given (image_of K C s bytes frame))
      take_answer e =
          let all = length (steps_of bytes) in
          let stepped : a ≡ given (min count (all - 0), (all - 0) - min count (all - 0)) = e ∙ passes _ _ _ (not_from_true (works s) working) in
          let none : eqb (all - (0 + min count (all - 0))) 0 ≡ true = eq-eqb _ _ (omega (arith, steps_long bytes (length bytes / 8) 0)) in
          ap (λ (x : Answer (ℕ × ℕ)). defined K C s (event (Steps count) x ∷ laid) (Take n)) stepped
          ∙ (passes _ _ _ (not_from_true (works s) working) ∙ passes _ _ _ (not_from_true _ none))

      -- what is taken
      pub taken : (x : Answer (List K.Level)) → a ≡ defined K C s laid (Steps count) → x ≡ defined K C s done (Take n) → x ≡ run_answer K C s bytes frame n
      taken x e t = t ∙ (take_answer e ∙ (sym (passes _ _ _ (frame_fits lies)) ∙ goes_on))

      -- a take is not refused where the output is as long as the frame
      pub never_refused : (r : Refusal) → a ≡ defined K C s laid (Steps count) → refused r ≡ defined K C s done (Take n) → length frame ≡ n → ⊥
      never_refused r e t alike =
          let fits : not (eqb n (pixels s)) ≡ false = ap (λ k. not (eqb k (pixels s))) (sym alike) ∙ frame_fits lies in
          let answer = t ∙ (take_answer e ∙ passes _ _ _ fits) in
          let z : ◌≡◌ {A = ℕ} 0 1 = cc answer in
          omega arith
