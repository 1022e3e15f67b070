-- What is known of a run that a history leaves open.
use Rattle.std.proofs.Common.{◌≡◌, ℕ, Bool, true, false, not, List, [], ◌∷◌, sym, refl, ap, ◌∙◌, subst, arith}
use borrow.Author.Tests.{clash}
use Rattle.level.specs.Kind.{Kind}
use Rattle.rule.specs.Criterion.{Criterion}
use Rattle.recipe.specs.declared.fault.Refusal.{Refusal}
use Rattle.recipe.specs.Plans.{Answer, given, refused, unless}
use Rattle.cell.specs.Refusals.{of_cell}
use Rattle.cell.specs.Histories.{Call, Good, Admit, Lay, Steps, Take, Clear, event, History, Setting, works, is_open, defined, CanHappen}
use Rattle.recipe.specs.declared.entry.Sheet.{Sheet}
use Rattle.level.specs.Delivered.{masks}
use Rattle.cell.specs.Histories.{setting}

-- only a working cell gives anything
gives : {A : Type 0} (b : Bool) (r : Refusal) (x : Answer A) (a : A) → given a ≡ unless (not b) r x → b ≡ true
gives true r x a e = refl
gives false r x a e = let z : ◌≡◌ {A = ℕ} 0 1 = cc in absurd (omega arith)

module _ (K : Kind) (C : Criterion) (s : Setting) where
  opened_by : (c : Call K.Level) (a : Answer (Good c)) (h : History K.Level) → (is_open h ≡ true → works s ≡ true) → a ≡ defined K C s h c → is_open (event c a ∷ h) ≡ true → works s ≡ true
  opened_by c (refused r) h before d o = before o
  opened_by (Admit bytes) (given a) h before d o = before o
  opened_by (Lay f) (given a) h before d o = gives (works s) _ _ a d
  opened_by (Steps n) (given a) h before d o = before o
  opened_by (Take n) (given a) h before d o = absurd (clash o)
  opened_by Clear (given a) h before d o = absurd (clash o)

  -- a run is open on a working cell only
  open_works : (h : History K.Level) → CanHappen K C s h → is_open h ≡ true → works s ≡ true
  open_works [] can o = absurd (clash o)
  open_works (e ∷ h) can o = opened_by e.call e.answer h (open_works h can.0) can.1 o

  -- a clear is not refused while a run is open
  pub clears : (h : History K.Level) (r : Refusal) → CanHappen K C s (event Clear (refused r) ∷ h) → is_open h ≡ true → ⊥
  clears h r can o =
      let w = open_works h can.0 o in
      let d : defined K C s h Clear ≡ given tt =
      ap (λ t. unless (not t) (of_cell 1) (unless (not (is_open h)) (of_cell 4) (given tt))) w
      ∙ ap (λ t. unless (not t) (of_cell 4) (given tt)) o in
      let z : ◌≡◌ {A = ℕ} 0 1 = cc can.1 in
      omega arith

-- the recipe that gives the frame itself
abbrev pub frame_bytes : List ℕ
frame_bytes = 1 ∷ 0 ∷ 0 ∷ 0 ∷ 0 ∷ 0 ∷ 0 ∷ 0 ∷ []

module _ (C : Criterion) (x : masks.Level) where
  lays_at_three : (a : Answer Sheet) (r : Refusal) → a ≡ defined masks C (setting 1 1 3) [] (Admit frame_bytes) → refused r ≡ defined masks C (setting 1 1 3) (event (Admit frame_bytes) a ∷ []) (Lay (x ∷ [])) → ⊥
  lays_at_three a r p q =
      let e : defined masks C (setting 1 1 3) (event (Admit frame_bytes) a ∷ []) (Lay (x ∷ [])) ≡ given tt =
      ap (λ t. defined masks C (setting 1 1 3) (event (Admit frame_bytes) t ∷ []) (Lay (x ∷ []))) p in
      let z : ◌≡◌ {A = ℕ} 0 1 = cc q in
      omega arith

  -- a small new cell admits this recipe and then lays a frame
  pub lays : (n : ℕ) → n ≡ 3 → (a : Answer Sheet) (r : Refusal) → a ≡ defined masks C (setting 1 1 n) [] (Admit frame_bytes) → refused r ≡ defined masks C (setting 1 1 n) (event (Admit frame_bytes) a ∷ []) (Lay (x ∷ [])) → ⊥
  lays n e =
      subst (λ k. (a : Answer Sheet) (r : Refusal) → a ≡ defined masks C (setting 1 1 k) [] (Admit frame_bytes) → refused r ≡ defined masks C (setting 1 1 k) (event (Admit frame_bytes) a ∷ []) (Lay (x ∷ [])) → ⊥) (sym e) lays_at_three
