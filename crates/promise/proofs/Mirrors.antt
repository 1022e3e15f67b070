-- The mirrored steps make of the negative the negatives of the planes.
use Rattle.std.proofs.Common.{◌≡◌, ◌+◌, ◌/◌, true, T, List, [], ◌∷◌, map, sym, refl, ap, ◌∙◌, subst, ap₂, arith}
use mathlib.Core.Path.{fun_ext}
use Rattle.level.specs.declared.side.Side.{Side}
use Rattle.level.specs.declared.side.Side.TheVariants.{Low, High}
use Rattle.level.specs.Sides.{opposite}
use Rattle.level.specs.Kind.{Kind}
use Rattle.level.specs.Dual.{dual}
use Rattle.level.specs.Lattice.{laws}
use Rattle.rule.specs.Criterion.{Criterion}
use Rattle.recipe.specs.declared.step.Step.{Step}
use Rattle.recipe.specs.Elements.{Offsets, offsets, turned}
use Rattle.recipe.specs.Steps.{Change, negation, folding, filtering, selecting, Merge, bounding, averaging, Form, start, change, merge, form, reads_ranks, mirror_step, mirror_change, mirror_merge, mirror_form}
use Rattle.recipe.specs.Machines.{by_form, run}
use Rattle.recipe.specs.Plans.{steps_of}
use Rattle.recipe.proofs.Gathered.{related}
use Rattle.recipe.proofs.Mirroring.{form_mirror, steps_mirror}
use Rattle.steps.specs.Images.{Size, Image, moved, folded, Same, negative}
use Rattle.steps.specs.Recipes.{half, mean, merge_levels, changed, on_planes, top_of, image}
use Rattle.promise.specs.Morphology.{eroded, dilated, opened, closed}
use Rattle.promise.specs.Laws.{Suits, MirrorLaw, MirrorStepsLaw}
use Rattle.promise.proofs.Seen.{eroded_same}
use Rattle.promise.proofs.Selected.{selected_negative, selected_same}
use Rattle.promise.proofs.Steps.{rank_mean}
use Rattle.promise.proofs.Admitted.{admitted}

-- the high form of the negative is the negative of the low form
module _ (K : Kind) (s : Size) (E : Offsets) (f : Image K) where
  dilated_negative : dilated K s E (negative K f) ≡ negative K (eroded K s E f)
  dilated_negative =
      fun_ext (λ p. related (λ a b. b ≡ K.negation a) K.meet K.join (λ a c b d u v. ap₂ K.join u v ∙ sym ((laws K).negation_meet a c))
      K.greatest K.least (sym (laws K).negation_greatest) _ (λ b. f (moved p b)) _ 25 (λ b h t. refl))

module _ (K : Kind) (s : Size) (E : Offsets) (f : Image K) where
  closed_negative : closed K s E (negative K f) ≡ negative K (opened K s E f)
  closed_negative =
      ap (eroded K s E) (dilated_negative K s (turned E) f) ∙ dilated_negative (dual K) s E (eroded K s (turned E) f)

halves : (d : Side) → half d + half (opposite d) ≡ 1
halves Low = refl
halves High = refl

-- a mean of the negations, rounded one way, is the negation of the mean rounded the other way
mean_negation : (K : Kind) → K.ranked ≡ true → (d : Side) (a b : K.Level) →
    mean K (opposite d) (K.negation a) (K.negation b) ≡ K.negation (mean K d a b)
mean_negation K w d a b = ap K.at ranks ∙ K.at_rank w _
  where
    ranks : (K.rank (K.negation a) + K.rank (K.negation b) + half (opposite d)) / 2 ≡ K.rank (K.negation (mean K d a b))
    ranks =
        let top-a = K.rank_top w a in
        let top-b = K.rank_top w b in
        omega (arith, halves d, rank_mean K w d a b, K.rank_negation w (mean K d a b), K.rank_negation w a, K.rank_negation w b)

-- at inside places a change depends on the inside places alone
folded_same : (K : Kind) (s : Size) (d : Side) (E : Offsets) (f g : Image K) → Same K s f g → Same K s (folded K s d E f) (folded K s d E g)
folded_same K s Low E f g h p i = eroded_same K s E f g p (λ q v. h q v.inside)
folded_same K s High E f g h p i = eroded_same (dual K) s E f g p (λ q v. h q v.inside)

changed_same : (K : Kind) (C : Criterion) (s : Size) (c : Change) (f g : Image K) → Same K s f g → Same K s (changed K C s c f) (changed K C s c g)
changed_same K C s negation f g h p i = ap K.negation (h p i)
changed_same K C s (folding d n) f g h p i = folded_same K s d (offsets n) f g h p i
changed_same K C s (filtering d n) f g h p i = folded_same K s (opposite d) (offsets n) _ _ (folded_same K s d (turned (offsets n)) f g h) p i
changed_same K C s (selecting d n) f g h p i = selected_same K s C d (offsets n) f g p (h p i) (λ c q v y. h q y.inside)

module _ (K : Kind) (C : Criterion) (s : Size) where
  change_negative : (c : Change) → (T (reads_ranks (change c)) → K.ranked ≡ true) → (f : Image K) →
      Same K s (changed K C s (mirror_change c) (negative K f)) (negative K (changed K C s c f))
  change_negative negation w f p i = refl
  change_negative (folding Low n) w f p i = ap (λ g. g p) (dilated_negative K s (offsets n) f)
  change_negative (folding High n) w f p i = ap (λ g. g p) (dilated_negative (dual K) s (offsets n) f)
  change_negative (filtering Low n) w f p i = ap (λ g. g p) (closed_negative K s (offsets n) f)
  change_negative (filtering High n) w f p i = ap (λ g. g p) (closed_negative (dual K) s (offsets n) f)
  change_negative (selecting d n) w f p i = selected_negative K (w tt) s C d (offsets n) f p i

  merge_negative : (m : Merge) → (T (reads_ranks (merge m)) → K.ranked ≡ true) → (a b : K.Level) →
      merge_levels K (mirror_merge m) (K.negation a) (K.negation b) ≡ K.negation (merge_levels K m a b)
  merge_negative (bounding Low) w a b = sym ((laws K).negation_meet a b)
  merge_negative (bounding High) w a b = sym ((laws K).negation_join a b)
  merge_negative (averaging d) w a b = mean_negation K (w tt) d a b

  -- each plane of the first stack is the negative of the one at its place in the second
  data Paired : List (Image K) → List (Image K) → Type 0 where
    nil : Paired [] []
    cons : {f g : Image K} {fs gs : List (Image K)} → Same K s f (negative K g) → Paired fs gs → Paired (f ∷ fs) (g ∷ gs)

  step_negative : (f : Image K) (x : Form) → (T (reads_ranks x) → K.ranked ≡ true) → {fs gs : List (Image K)} → Paired fs gs →
      Paired (by_form (on_planes K C s (negative K f)) (mirror_form x) fs) (by_form (on_planes K C s f) x gs)
  step_negative f start w st = cons (λ p i. refl) st
  step_negative f (change c) w nil = nil
  step_negative f (change c) w (cons {g = g} h st) =
      cons (λ p i. changed_same K C s (mirror_change c) _ _ h p i ∙ change_negative c w g p i) st
  step_negative f (merge m) w nil = nil
  step_negative f (merge m) w (cons h nil) = cons h nil
  step_negative f (merge m) w (cons h (cons k st)) =
      cons (λ p i. ap₂ (merge_levels K (mirror_merge m)) (k p i) (h p i) ∙ merge_negative m w _ _) st

  run_negative : (f : Image K) (steps : List Step) → Suits K steps → {fs gs : List (Image K)} → Paired fs gs →
      Paired (run (on_planes K C s (negative K f)) (map mirror_step steps) fs) (run (on_planes K C s f) steps gs)
  run_negative f [] w st = st
  run_negative f (x ∷ steps) w {fs} {gs} st =
      run_negative f steps w.1
      (subst (λ y. Paired (by_form (on_planes K C s (negative K f)) y fs) (by_form (on_planes K C s f) (form x) gs)) (sym (form_mirror x))
      (step_negative f (form x) w.0 st))

  paired_top : (f : Image K) {fs gs : List (Image K)} → Paired fs gs → Same K s (top_of (negative K f) fs) (negative K (top_of f gs))
  paired_top f nil p i = refl
  paired_top f (cons h st) p i = h p i

pub mirror_steps_law : (K : Kind) (C : Criterion) → MirrorStepsLaw K C
mirror_steps_law K C s steps w f = paired_top K C s f (run_negative K C s f steps w nil)

pub mirror_law : (K : Kind) (C : Criterion) → MirrorLaw K C
mirror_law K C s bytes sheet e f =
    subst (λ steps. Same K s (image K C s steps (negative K f)) (negative K (image K C s (steps_of bytes) f))) (sym (steps_mirror bytes))
    (mirror_steps_law K C s (steps_of bytes) (admitted K bytes sheet e).suits f)
