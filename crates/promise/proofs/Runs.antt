-- The machine on entries follows the machine on planes, so what each entry says is true of its plane.
use Rattle.std.proofs.Common.{◌≡◌, ℕ, zero, suc, ◌<◌, true, T, List, [], ◌∷◌, map, length, get_or, sym, refl, ap, ◌∙◌, subst, le_of_suc-le-suc, not-suc-le-zero}
use mathlib.Core.Path.{fun_ext}
use lib.Dec.{eqb_refl}
use lib.ListN.{length-map, get_or-map}
use Rattle.std.proofs.ByRecursion.{All-take}
use Rattle.level.specs.Kind.{Kind}
use Rattle.rule.specs.Criterion.{Criterion}
use Rattle.recipe.specs.declared.step.Step.{Step}
use Rattle.recipe.specs.declared.entry.Chain.{Chain}
use Rattle.recipe.specs.declared.entry.Chain.TheVariants.{OfAny, Of, Broken}
use Rattle.recipe.specs.declared.entry.Entry.{Entry}
use Rattle.recipe.specs.declared.entry.Marks.{Marks}
use Rattle.recipe.specs.declared.entry.Sheet.{Sheet}
use Rattle.recipe.specs.Elements.{bits}
use Rattle.recipe.specs.Steps.{Form, start, change, merge, form, reads_ranks}
use Rattle.recipe.specs.Machines.{Machine, by_form, stepped, run}
use Rattle.recipe.specs.Sheets.{frame_entry, on_entries, settles, marks_of, top}
use Rattle.recipe.specs.Plans.{steps_of}
use Rattle.steps.specs.Images.{Size, Sized, Image}
use Rattle.steps.specs.Recipes.{changed, merged, on_planes, top_of, image}
use Rattle.promise.specs.Operators.{Operator, Settles, Marked}
use Rattle.promise.specs.Laws.{Admitted, Suits, entries, entry, plane, OnStack, Throughout, MarksLaw, ReachLaw}
use Rattle.promise.proofs.Around.{bounded_within, depends_reaches}
use Rattle.promise.proofs.Chains.{ChainOf, chained_settles}
use Rattle.promise.proofs.Steps.{Good, links, start_good, change_good, merge_good}
use Rattle.promise.proofs.Admitted.{admitted}

-- the machine on what is done to any frame
module _ (K : Kind) (C : Criterion) (s : Size) where
  abbrev on_operators : Machine (Operator K)
  on_operators = record {
    begin = λ f. f;
    one = λ c op f. changed K C s c (op f);
    two = λ m a b f. merged K m (a f) (b f);
  }

  abbrev operators : List Step → List (Operator K)
  operators steps = run on_operators steps []

  step_at : (f : Image K) (x : Form) (st : List (Operator K)) →
      by_form (on_planes K C s f) x (map (λ op. op f) st) ≡ map (λ op. op f) (by_form on_operators x st)
  step_at f start st = refl
  step_at f (change c) [] = refl
  step_at f (change c) (a ∷ st) = refl
  step_at f (merge m) [] = refl
  step_at f (merge m) (a ∷ []) = refl
  step_at f (merge m) (a ∷ b ∷ st) = refl

  run_at : (f : Image K) (steps : List Step) (st : List (Operator K)) →
      run (on_planes K C s f) steps (map (λ op. op f) st) ≡ map (λ op. op f) (run on_operators steps st)
  run_at f [] st = refl
  run_at f (x ∷ steps) st = ap (run (on_planes K C s f) steps) (step_at f (form x) st) ∙ run_at f steps (stepped on_operators x st)

  plane_is : (steps : List Step) (k : ℕ) → plane K C s steps k ≡ get_or (operators steps) k (λ f. f)
  plane_is steps k = fun_ext (λ f. ap (λ st. get_or st k f) (run_at f steps []) ∙ get_or-map (λ op. op f) (operators steps) k (λ f. f))

  top_at : (f : Image K) (ops : List (Operator K)) → top_of f (map (λ op. op f) ops) ≡ top_of (λ f. f) ops f
  top_at f [] = refl
  top_at f (op ∷ ops) = refl

  image_is : (steps : List Step) → image K C s steps ≡ top_of (λ f. f) (operators steps)
  image_is steps = fun_ext (λ f. ap (top_of f) (run_at f steps []) ∙ top_at f (operators steps))

-- each entry of a stack holds of the operator at its place
module _ (K : Kind) (C : Criterion) (s : Size) (sized : Sized s) where
  data Stacked : List Entry → List (Operator K) → Type 0 where
    nil : Stacked [] []
    cons : {e : Entry} {op : Operator K} {es : List Entry} {ops : List (Operator K)} → Good K s e op → Stacked es ops → Stacked (e ∷ es) (op ∷ ops)

  step_good : {es : List Entry} {ops : List (Operator K)} (x : Form) → (T (reads_ranks x) → K.ranked ≡ true) → Stacked es ops →
      Stacked (by_form on_entries x es) (by_form (on_operators K C s) x ops)
  step_good start w st = cons (start_good K s) st
  step_good (change c) w nil = nil
  step_good (change c) w (cons h st) = cons (change_good K C sized c w h) st
  step_good (merge m) w nil = nil
  step_good (merge m) w (cons h nil) = cons h nil
  step_good (merge m) w (cons h (cons k st)) = cons (merge_good K sized m w k h) st

  run_good : (steps : List Step) → Suits K steps → {es : List Entry} {ops : List (Operator K)} → Stacked es ops →
      Stacked (run on_entries steps es) (run (on_operators K C s) steps ops)
  run_good [] w st = st
  run_good (x ∷ steps) w st = run_good steps w.1 (step_good (form x) w.0 st)

  stacked_length : {es : List Entry} {ops : List (Operator K)} → Stacked es ops → length ops ≡ length es
  stacked_length nil = refl
  stacked_length (cons h st) = ap suc (stacked_length st)

  stacked_at : {es : List Entry} {ops : List (Operator K)} → Stacked es ops → (k : ℕ) → k < length es →
      Good K s (get_or es k frame_entry) (get_or ops k (λ f. f))
  stacked_at nil k l = absurd (not-suc-le-zero l)
  stacked_at (cons h st) zero l = h
  stacked_at (cons h st) (suc k) l = stacked_at st k (le_of_suc-le-suc l)

  stacked_top : {es : List Entry} {ops : List (Operator K)} → Stacked es ops → Good K s (top es) (top_of (λ f. f) ops)
  stacked_top nil = start_good K s
  stacked_top (cons h st) = h

  -- so what follows from a good entry holds throughout an admitted recipe
  module _ (P : ℕ → Marks → Operator K → Type 0) (follows : (e : Entry) (op : Operator K) → Good K s e op → P e.reach (marks_of e) op) where
    on_stack : (steps : List Step) → Suits K steps → OnStack K C s P steps
    on_stack steps w = record {
      as_many = λ f. ap length (run_at K C s f steps []) ∙ (length-map (operators K C s steps) (λ op. op f) ∙ stacked_length (run_good steps w nil));
      each = λ k l.
          subst (P (entry steps k).reach (marks_of (entry steps k))) (sym (plane_is K C s steps k))
          (follows _ _ (stacked_at (run_good steps w nil) k l));
    }

    throughout : (bytes : List ℕ) (sheet : Sheet) → Admitted K bytes sheet → Throughout K C s P bytes sheet
    throughout bytes sheet e =
        let steps = steps_of bytes in
        let a = admitted K bytes sheet e in
        record {
          one_plane = λ f. (on_stack steps a.suits).as_many f ∙ a.one_left;
          of_image =
              subst (λ (h : Sheet). P h.reach h.marks (image K C s steps)) (sym a.sheet_is)
              (subst (P (top (entries steps)).reach (marks_of (top (entries steps)))) (sym (image_is K C s steps))
              (follows _ _ (stacked_top (run_good steps a.suits nil))));
          of_stack = λ n. on_stack _ (All-take _ n steps a.suits);
        }

module _ (K : Kind) (s : Size) where
  chain_settles : (c : Chain) (op : Operator K) → ((n : ℕ) → T (links n c) → ChainOf K s (bits n) op) → T (settles c) → Settles K s op
  chain_settles OfAny op h t = chained_settles K s (bits 0) op (h 0 tt)
  chain_settles (Of n) op h t = chained_settles K s (bits n.bits) op (h n.bits (eqb_refl n.bits))
  chain_settles Broken op h t = elim t [ ]

  marked : (e : Entry) (op : Operator K) → Good K s e op → Marked K s e.reach (marks_of e) op
  marked e op h = record {
    below = h.below;
    above = h.above;
    keeps = h.keeps;
    turns = h.turns;
    settles = chain_settles e.chain op h.chained;
    within = λ t. bounded_within K s e.reach op (h.bounded t);
  }

pub marks_law : (K : Kind) (C : Criterion) → MarksLaw K C
marks_law K C s sized = throughout K C s sized (Marked K s) (marked K s)

pub reach_law : (K : Kind) (C : Criterion) → ReachLaw K C
reach_law K C s sized = throughout K C s sized _ (λ e op h. depends_reaches K s e.reach op h.depends)
