-- A run as a history of its calls, and what the cell's promises say of it.
use Rattle.std.proofs.Common.{◌≡◌, ℕ, ◌-◌, ◌/◌, min, not, eqb, List, [], ◌∷◌, map, length, Some, sym, refl, ap, ◌∙◌, arith}
use Rattle.level.specs.Kind.{Kind}
use Rattle.rule.specs.Criterion.{Criterion}
use Rattle.recipe.specs.declared.entry.Sheet.{Sheet}
use Rattle.recipe.specs.Mirrors.{mirror, mirror_sheet}
use Rattle.recipe.specs.Plans.{Answer, given, refused, mapped, steps_of}
use Rattle.recipe.proofs.Checking.{same_given, let_by, both_given}
use Rattle.recipe.proofs.Mirroring.{mirror_mirrored}
use Rattle.std.proofs.lemmas.Bool.{not_from_true}
use Rattle.cell.specs.Refusals.{of_cell}
use Rattle.cell.specs.Histories.{Admit, Lay, Steps, Take, event, History, Setting, pixels, works, defined}
use Rattle.cell.specs.Laws.{MarkLaw, MirrorLaw, ReachLaw, Taken}
use Rattle.cell.proofs.Behinds.{passes}
use Rattle.controller.specs.Runs.{run_answer}
use Rattle.controller.specs.Promises.{RunsMarked, RunsMirrored, RunsReach}
use Rattle.controller.proofs.Calling.{not_admitted, not_laid, taken, working, lay_answer, take_answer}

module _ (K : Kind) (C : Criterion) where
  -- the calls of a run before its take
  abbrev calls : List ℕ → List K.Level → Sheet → Answer (ℕ × ℕ) → History K.Level
  calls bytes frame sheet a = event (Steps (length bytes / 8)) a ∷ event (Lay frame) (given tt) ∷ event (Admit bytes) (given sheet) ∷ []

  -- all records done, none left
  abbrev all_done : List ℕ → Answer (ℕ × ℕ)
  all_done bytes =
      let all = length (steps_of bytes) in
      given (min (length bytes / 8) (all - 0), (all - 0) - min (length bytes / 8) (all - 0))

  -- an image that a run gave was taken
  record WasTaken (s : Setting) (bytes : List ℕ) (frame out : List K.Level) : Type 0 where
    sheet : Sheet
    was : Taken K C s (calls bytes frame sheet (all_done bytes)) out

  was_taken : (s : Setting) (bytes : List ℕ) (frame out : List K.Level) (n : ℕ) → run_answer K C s bytes frame n ≡ given out → WasTaken s bytes frame out
  was_taken s bytes frame out n e =
      let a = both_given (defined K C s [] (Admit bytes)) _ out e in
      let b = let_by (not (eqb (length frame) (pixels s))) (of_cell 20) _ out a.2 in
      let took = sym a.1 in
      let lies = sym (lay_answer K C s bytes frame n a.0 took ∙ passes _ _ _ b.0) in
      let steps : all_done bytes ≡ defined K C s (event (Lay frame) (given tt) ∷ event (Admit bytes) (given a.0) ∷ []) (Steps (length bytes / 8)) =
      sym (passes _ _ _ (not_from_true (works s) (working K C s bytes frame n a.0 took))) in
      record {
        sheet = a.0;
        was = record {
          asked = n;
          later = [];
          happens = ((((tt, took), lies), steps), sym (take_answer K C s bytes frame n a.0 took lies (length bytes / 8) (omega arith) _ steps ∙ b.1));
        };
      }

  pub marked : ((s : Setting) → MarkLaw K C s) → (s : Setting) → RunsMarked K C s
  marked law s bytes frame out n e =
      let t = was_taken s bytes frame out n e in
      let k = law s (calls bytes frame t.sheet (all_done bytes)) out t.was in
      record { sheet = k.sheet; admitted = k.admitted; kept = k.kept }

  pub reached : ((s : Setting) → MarkLaw K C s) → ((s s' : Setting) → ReachLaw K C s s') → (s s' : Setting) → RunsReach K C s s'
  reached marks law s s' z bytes frame frame' out out' n n' e e' sheet c p i near =
      let t = was_taken s bytes frame out n e in
      let t' = was_taken s' bytes frame' out' n' e' in
      let k = marks s (calls bytes frame t.sheet (all_done bytes)) out t.was in
      let shown = k.is_shown ∙ ap Some (same_given k.sheet sheet (sym k.admitted ∙ c)) in
      law s s' z (calls bytes frame t.sheet (all_done bytes)) (calls bytes frame' t'.sheet (all_done bytes)) out out' t.was t'.was refl sheet shown p i near

  module _ (s : Setting) (law : MirrorLaw K C s) (bytes : List ℕ) (frame : List K.Level) (n : ℕ) where
    abbrev negative : List K.Level
    negative = map K.negation frame

    abbrev Mirrors : Type 0
    Mirrors = run_answer K C s (mirror bytes) negative n ≡ mapped (map K.negation) (run_answer K C s bytes frame n)

    module _ (sheet : Sheet) (took : given sheet ≡ defined K C s [] (Admit bytes)) (lies : given tt ≡ defined K C s (event (Admit bytes) (given sheet) ∷ []) (Lay frame)) (counts : ℕ × ℕ) (steps : given counts ≡ defined K C s (event (Lay frame) (given tt) ∷ event (Admit bytes) (given sheet) ∷ []) (Steps (length bytes / 8))) where
      taken_mirror : (x : Answer (List K.Level)) → x ≡ defined K C s (calls bytes frame sheet (given counts)) (Take n) → Mirrors
      taken_mirror (refused r) e =
          let m = law.happens (event (Take n) (refused r) ∷ calls bytes frame sheet (given counts)) ((((tt, took), lies), steps), e) in
          sym (taken K C s (mirror bytes) negative n (mirror_sheet sheet) m.0.0.0.1 m.0.0.1 (length bytes / 8) (omega (arith, (mirror_mirrored bytes).long)) _ (refused r) m.0.1 m.1)
          ∙ ap (mapped (map K.negation)) (taken K C s bytes frame n sheet took lies (length bytes / 8) (omega arith) _ (refused r) steps e)
      taken_mirror (given out) e =
          let m = law.happens (event (Take n) (given out) ∷ calls bytes frame sheet (given counts)) ((((tt, took), lies), steps), e) in
          sym (taken K C s (mirror bytes) negative n (mirror_sheet sheet) m.0.0.0.1 m.0.0.1 (length bytes / 8) (omega (arith, (mirror_mirrored bytes).long)) _ (given (map K.negation out)) m.0.1 m.1)
          ∙ ap (mapped (map K.negation)) (taken K C s bytes frame n sheet took lies (length bytes / 8) (omega arith) _ (given out) steps e)

    module _ (sheet : Sheet) (took : given sheet ≡ defined K C s [] (Admit bytes)) where
      laid_mirror : (x : Answer (Unit {0})) → x ≡ defined K C s (event (Admit bytes) (given sheet) ∷ []) (Lay frame) → Mirrors
      laid_mirror (refused r) e =
          let m = law.happens (event (Lay frame) (refused r) ∷ event (Admit bytes) (given sheet) ∷ []) ((tt, took), e) in
          sym (not_laid K C s (mirror bytes) negative n (mirror_sheet sheet) m.0.1 r m.1)
          ∙ ap (mapped (map K.negation)) (not_laid K C s bytes frame n sheet took r e)
      laid_mirror (given tt) e =
          taken_mirror sheet took e _ (sym (passes _ _ _ (not_from_true (works s) (working K C s bytes frame n sheet took)))) _ refl

    admitted_mirror : (x : Answer Sheet) → x ≡ defined K C s [] (Admit bytes) → Mirrors
    admitted_mirror (refused r) e =
        let m = law.happens (event (Admit bytes) (refused r) ∷ []) (tt, e) in
        sym (not_admitted K C s (mirror bytes) negative n r m.1) ∙ ap (mapped (map K.negation)) (not_admitted K C s bytes frame n r e)
    admitted_mirror (given sheet) e = laid_mirror sheet e _ refl

  pub mirrored_runs : ((s : Setting) → MirrorLaw K C s) → (s : Setting) → RunsMirrored K C s
  mirrored_runs law s bytes frame n = admitted_mirror s (law s) bytes frame n _ refl
