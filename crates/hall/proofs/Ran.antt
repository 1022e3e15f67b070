-- Four calls on a new cell: what they come to, and that the run can be cleared if the take is refused.
use Rattle.std.proofs.Common.{◌≡◌, ℕ, true, not, List, [], ◌∷◌, refl, ap, ◌∙◌, arith}
use Rattle.level.specs.Kind.{Kind}
use Rattle.rule.specs.Criterion.{Criterion}
use Rattle.recipe.specs.declared.entry.Sheet.{Sheet}
use Rattle.recipe.specs.declared.fault.Refusal.{Refusal}
use Rattle.recipe.specs.Plans.{Answer, given, refused, next, unless}
use Rattle.cell.specs.Refusals.{of_cell}
use Rattle.cell.specs.Histories.{Admit, Lay, Steps, Take, Clear, History, event, Setting, is_open, image_of, defined, CanHappen}
use Rattle.cell.proofs.Sound.{running, image_law}
use Rattle.hall.specs.Runs.{admitted, laid, stepped, taking, laying, one_run}

module _ (K : Kind) (C : Criterion) (s : Setting) where
  -- a clear is not refused while a run is open
  pub clears : (h : History K.Level) (r : Refusal) → CanHappen K C s (event Clear (refused r) ∷ h) → is_open h ≡ true → ⊥
  clears h r can o =
      let d : defined K C s h Clear ≡ given tt =
      ap (λ t. unless (not t) (of_cell 1) (unless (not (is_open h)) (of_cell 4) (given tt))) (running K C s h can.0 o).working
      ∙ ap (λ t. unless (not t) (of_cell 4) (given tt)) o in
      let z : ◌≡◌ {A = ℕ} 0 1 = cc can.1 in
      omega arith

  module _ (bytes : List ℕ) (f : List K.Level) (n : ℕ) where
    -- once the frame is laid, steps and a take that is refused leave the run open
    still_open : (sheet : Sheet) (a : Answer (ℕ × ℕ)) → is_open (stepped K C s bytes f sheet a) ≡ true
    still_open sheet (given a) = refl
    still_open sheet (refused r) = refl

    -- so it can be cleared
    pub ends : (sheet : Sheet) (a : Answer (ℕ × ℕ)) (t r : Refusal) →
        CanHappen K C s (event Clear (refused r) ∷ (event (Take n) (refused t) ∷ stepped K C s bytes f sheet a)) → ⊥
    ends sheet a t r can = clears (event (Take n) (refused t) ∷ stepped K C s bytes f sheet a) r can (still_open sheet a)

    -- an image taken is that of the recipe and the frame
    pub pictured : (sheet : Sheet) (a : Answer (ℕ × ℕ)) (out : List K.Level) →
        CanHappen K C s (event (Take n) (given out) ∷ stepped K C s bytes f sheet a) → out ≡ image_of K C s bytes f
    pictured sheet (given a) out can = image_law K C s (stepped K C s bytes f sheet (given a)) out (record { asked = n; later = []; happens = can })
    pictured sheet (refused r) out can = image_law K C s (stepped K C s bytes f sheet (refused r)) out (record { asked = n; later = []; happens = can })

    -- the first call is refused
    pub not_admitted : (r : Refusal) → refused r ≡ defined K C s [] (Admit bytes) → refused r ≡ one_run K C s bytes f n
    not_admitted r e = ap (λ a. next a (laying K C s bytes f n)) e

    module _ (sheet : Sheet) (e : given sheet ≡ defined K C s [] (Admit bytes)) where
      after_admit : laying K C s bytes f n sheet ≡ one_run K C s bytes f n
      after_admit = ap (λ a. next a (laying K C s bytes f n)) e

      -- the second call is refused
      pub not_laid : (r : Refusal) → refused r ≡ defined K C s (admitted K C s bytes f sheet) (Lay f) → refused r ≡ one_run K C s bytes f n
      not_laid r p = ap (λ a. next a (λ _. taking K C s bytes f n sheet)) p ∙ after_admit

      -- the last call gives the image, or is refused
      pub ran : (a : Answer (ℕ × ℕ)) (out : Answer (List K.Level)) → given tt ≡ defined K C s (admitted K C s bytes f sheet) (Lay f) →
          a ≡ defined K C s (laid K C s bytes f sheet) (Steps 64) → out ≡ defined K C s (stepped K C s bytes f sheet a) (Take n) →
          out ≡ one_run K C s bytes f n
      ran a out p q t =
          t ∙ (ap (λ x. defined K C s (stepped K C s bytes f sheet x) (Take n)) q
          ∙ (ap (λ x. next x (λ _. taking K C s bytes f n sheet)) p ∙ after_admit))
