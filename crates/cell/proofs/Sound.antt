-- What stands at every point of a history that can happen: which recipe is installed, and what a run that is open rests on.
use Rattle.std.proofs.Common.{◌≡◌, ℕ, Bool, true, false, not, eqb, ◌⊎◌, List, [], ◌∷◌, ◌++◌, length, Some, Option, sym, refl, ap, ◌∙◌, inl, inr, ⊎_elim, true≢false, arith}
use Rattle.std.proofs.lemmas.Bool.Decides.{nat_tests}
use Rattle.level.specs.Kind.{Kind}
use Rattle.rule.specs.Criterion.{Criterion}
use Rattle.recipe.specs.declared.entry.Sheet.{Sheet}
use Rattle.recipe.specs.Plans.{Answer, given, refused, checked}
use Rattle.recipe.proofs.Checking.{same_given, let_by, both_given}
use Rattle.steps.specs.Images.{Sized}
use Rattle.promise.specs.Laws.{Admitted}
use Rattle.cell.specs.Refusals.{of_cell}
use Rattle.cell.specs.Histories.{Call, Admit, Lay, Steps, Take, Clear, Good, event, History, installed, laid, is_open, left, Setting, size, pixels, works, housed, image_of, defined, CanHappen}
use Rattle.cell.specs.Laws.{shown, Taken, ImageLaw}

pub passed : (b : Bool) → not b ≡ false → b ≡ true
passed true e = refl
passed false e = absurd (true≢false e)

not_both : {b : Bool} {P : Type 0} → b ≡ false → b ≡ true → P
not_both {b} f t = absurd (true≢false (sym t ∙ f))

same_number : (m n : ℕ) → not (eqb m n) ≡ false → m ≡ n
same_number m n e = grind (arith, nat_tests)

not_zero : (n : ℕ) → eqb n 0 ≡ false → n ≡ 0 → ⊥
not_zero n e z = not_both e (ap (λ m. eqb m 0) z)

-- a cell that works has frames of a size that the steps serve
pub works_sized : (s : Setting) → works s ≡ true → Sized (size s)
works_sized s e = record {
  some_columns = grind (arith, nat_tests);
  few_columns = grind (arith, nat_tests);
  some_rows = grind (arith, nat_tests);
  few_rows = grind (arith, nat_tests);
}

-- what an open run rests on: the cell works, its recipe is admitted with the sheet shown, and its frame fills a plane
pub record OpenRun (K : Kind) (s : Setting) (bytes : List ℕ) (answered : Option Sheet) (f : List K.Level) : Type 0 where
  pub working : works s ≡ true
  pub sheet : Sheet
  pub is_shown : answered ≡ Some sheet
  pub admitted : Admitted K bytes sheet
  pub long : length f ≡ pixels s

record Sound (K : Kind) (s : Setting) (bytes : List ℕ) (answered : Option Sheet) (f : List K.Level) (running : Bool) : Type 0 where
  recipe : (length bytes ≡ 0) ⊎ ((sheet : Sheet) × (answered ≡ Some sheet) × Admitted K bytes sheet)
  run : running ≡ true → OpenRun K s bytes answered f

module _ (K : Kind) (C : Criterion) (s : Setting) where
  abbrev SoundAfter : History K.Level → Type 0
  SoundAfter h = Sound K s (installed h) (shown h) (laid h) (is_open h)

  housed_same : (sheet answered : Sheet) → housed s sheet ≡ given answered → sheet ≡ answered
  housed_same sheet answered e = same_given sheet answered (let_by _ (of_cell 19) (given sheet) answered e).1

  after_admit : (h : History K.Level) (bytes : List ℕ) (sheet : Sheet) → SoundAfter h → given sheet ≡ defined K C s h (Admit bytes) →
      Sound K s bytes (Some sheet) (laid h) (is_open h)
  after_admit h bytes sheet st e =
      let a = let_by (not (works s)) (of_cell 1) _ sheet (sym e) in
      let b = let_by (is_open h) (of_cell 2) _ sheet a.1 in
      let c = both_given (checked K.ranked bytes) (housed s) sheet b.1 in
      record { recipe = inr (sheet, refl, c.1 ∙ ap given (housed_same c.0 sheet c.2)); run = λ o. not_both b.0 o }

  after_lay : (h : History K.Level) (f : List K.Level) → SoundAfter h → given tt ≡ defined K C s h (Lay f) → Sound K s (installed h) (shown h) f true
  after_lay h f st e =
      let a = let_by (not (works s)) (of_cell 1) _ tt (sym e) in
      let b = let_by (eqb (length (installed h)) 0) (of_cell 3) _ tt a.1 in
      let c = let_by (is_open h) (of_cell 2) _ tt b.1 in
      let d = let_by (not (eqb (length f) (pixels s))) (of_cell 20) (given tt) tt c.1 in
      record {
        recipe = st.recipe;
        run = λ o. ⊎_elim
            (λ z. absurd (not_zero (length (installed h)) b.0 z))
            (λ r. record {
              working = passed (works s) a.0;
              sheet = r.0;
              is_shown = r.1;
              admitted = r.2;
              long = same_number (length f) (pixels s) d.0;
            })
            st.recipe;
      }

  sound_next : (h : History K.Level) → SoundAfter h → (c : Call K.Level) (a : Answer (Good c)) → a ≡ defined K C s h c → SoundAfter (event c a ∷ h)
  sound_next h st c (refused r) e = st
  sound_next h st (Admit bytes) (given sheet) e = after_admit h bytes sheet st e
  sound_next h st (Lay f) (given a) e = after_lay h f st e
  sound_next h st (Steps n) (given a) e = st
  sound_next h st (Take n) (given a) e = record { recipe = st.recipe; run = λ o. absurd (true≢false (sym o)) }
  sound_next h st Clear (given a) e = record { recipe = st.recipe; run = λ o. absurd (true≢false (sym o)) }

  sounds : (h : History K.Level) → CanHappen K C s h → SoundAfter h
  sounds [] can = record { recipe = inl refl; run = λ o. absurd (true≢false (sym o)) }
  sounds (e ∷ h) can = sound_next h (sounds h can.0) e.call e.answer can.1

  pub running : (h : History K.Level) → CanHappen K C s h → is_open h ≡ true → OpenRun K s (installed h) (shown h) (laid h)
  running h can = (sounds h can).run

  -- at a take: the image defined, and a run that was open
  pub record AtTake (earlier : History K.Level) (out : List K.Level) : Type 0 where
    pub image_is : out ≡ image_of K C s (installed earlier) (laid earlier)
    pub run : OpenRun K s (installed earlier) (shown earlier) (laid earlier)

  at_take : (h : History K.Level) (n : ℕ) (out : List K.Level) → CanHappen K C s h → given out ≡ defined K C s h (Take n) → AtTake h out
  at_take h n out can e =
      let a = let_by (not (works s)) (of_cell 1) _ out (sym e) in
      let b = let_by (not (is_open h)) (of_cell 4) _ out a.1 in
      let c = let_by (not (eqb (left h) 0)) (of_cell 5) _ out b.1 in
      let d = let_by (not (eqb n (pixels s))) (of_cell 20) (given (image_of K C s (installed h) (laid h))) out c.1 in
      record { image_is = sym (same_given (image_of K C s (installed h) (laid h)) out d.1); run = running h can (passed (is_open h) b.0) }

  found : (later earlier : History K.Level) (n : ℕ) (out : List K.Level) →
      CanHappen K C s (later ++ (event (Take n) (given out) ∷ earlier)) → AtTake earlier out
  found [] earlier n out can = at_take earlier n out can.0 can.1
  found (e ∷ later) earlier n out can = found later earlier n out can.0

  pub taken : (earlier : History K.Level) (out : List K.Level) → Taken K C s earlier out → AtTake earlier out
  taken earlier out t = found t.later earlier t.asked out t.happens

pub image_law : (K : Kind) (C : Criterion) (s : Setting) → ImageLaw K C s
image_law K C s earlier out t = (taken K C s earlier out t).image_is
