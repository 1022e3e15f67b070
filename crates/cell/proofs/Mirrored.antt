-- The mirrored calls get the mirrored answers.
use Rattle.std.proofs.Common.{◌≡◌, ℕ, ◌+◌, ◌-◌, min, Bool, true, false, not, eqb, List, [], ◌∷◌, map, length, Option, sym, refl, ap, ◌∙◌, ap₂, arith}
use lib.ListN.{length-map}
use Rattle.level.specs.Kind.{Kind}
use Rattle.rule.specs.Criterion.{Criterion}
use Rattle.recipe.specs.declared.entry.Sheet.{Sheet}
use Rattle.recipe.specs.declared.fault.Refusal.{Refusal}
use Rattle.recipe.specs.Steps.{mirror_step}
use Rattle.recipe.specs.Mirrors.{mirror, mirror_sheet}
use Rattle.recipe.specs.Plans.{Answer, given, refused, unless, next, mapped, checked, steps_of}
use Rattle.recipe.proofs.Mirroring.{mirror_mirrored, steps_mirror, mirror_law as recipe_mirrored}
use Rattle.steps.specs.Images.{negative}
use Rattle.steps.specs.Recipes.{image}
use Rattle.promise.specs.Laws.{Admitted}
use Rattle.promise.proofs.Mirrors.{mirror_law as image_mirrored}
use Rattle.cell.specs.Refusals.{of_cell}
use Rattle.cell.specs.Rasters.{picture}
use Rattle.cell.specs.Histories.{Call, Admit, Lay, Steps, Take, Clear, Good, Event, event, History, installed_by, installed, laid_by, laid, open_by, is_open, done_by, left, State, state, Setting, size, pixels, housed, image_of, defined, CanHappen}
use Rattle.cell.specs.Laws.{shown, calls, mirror_call, mirror_answer, mirrored, MirrorLaw}
use Rattle.cell.proofs.Pictured.{raster_same, raster_negative, picture_negative}
use Rattle.cell.proofs.Sound.{passed, works_sized, OpenRun, running}
use Rattle.cell.proofs.Promised.{image_same}

module _ (K : Kind) (C : Criterion) where
  -- the mirrored recipe's image of the frame negated
  image_negative : (s : Setting) (bytes : List ℕ) {answered : Option Sheet} (f : List K.Level) → OpenRun K s bytes answered f →
      image_of K C s (mirror bytes) (map K.negation f) ≡ map K.negation (image_of K C s bytes f)
  image_negative s bytes f r =
      let z = size s in
      let sized = works_sized s r.working in
      let g = picture K z f in
      let steps = steps_of bytes in
      let a : Admitted K (mirror bytes) (mirror_sheet r.sheet) = (recipe_mirrored K.ranked bytes).answered ∙ ap (mapped mirror_sheet) r.admitted in
      raster_same K z _ (negative K (image K C z steps g))
      (λ p i. image_same K C z sized (mirror bytes) (mirror_sheet r.sheet) a (picture K z (map K.negation f)) (negative K g)
      (picture_negative K z f r.long) p i
      ∙ image_mirrored K C z bytes r.sheet r.admitted g p i)
      ∙ raster_negative K z (image K C z steps g)

  -- x is the mirror of y
  record Mirrors (x y : State K.Level) : Type 0 where
    recipe : x.recipe ≡ mirror y.recipe
    frame : x.frame ≡ map K.negation y.frame
    running : x.running ≡ y.running
    records : x.records ≡ y.records

  -- what a history comes to with one event more
  abbrev state_by : (c : Call K.Level) → Answer (Good c) → State K.Level → State K.Level
  state_by c a t = record {
    recipe = installed_by c a t.recipe;
    frame = laid_by c a t.frame;
    running = open_by c a t.running;
    records = done_by c a t.records;
  }

  mirrors_by : (c : Call K.Level) (a : Answer (Good c)) (x y : State K.Level) → Mirrors x y →
      Mirrors (state_by (mirror_call K c) (mirror_answer K c a) x) (state_by c a y)
  mirrors_by c (refused r) x y m = m
  mirrors_by (Admit bytes) (given a) x y m = record { recipe = refl; frame = m.frame; running = m.running; records = m.records }
  mirrors_by (Lay f) (given a) x y m = record { recipe = m.recipe; frame = refl; running = refl; records = refl }
  mirrors_by (Steps n) (given a) x y m = record { recipe = m.recipe; frame = m.frame; running = m.running; records = ap (λ k. k + a.0) m.records }
  mirrors_by (Take n) (given a) x y m = record { recipe = m.recipe; frame = m.frame; running = refl; records = m.records }
  mirrors_by Clear (given a) x y m = record { recipe = m.recipe; frame = m.frame; running = refl; records = m.records }

  abbrev mirrors : History K.Level → History K.Level
  mirrors h = map (mirrored K) h

  mirror_state : (h : History K.Level) → Mirrors (state (mirrors h)) (state h)
  mirror_state [] = record { recipe = refl; frame = refl; running = refl; records = refl }
  mirror_state (e ∷ h) = mirrors_by e.call e.answer (state (mirrors h)) (state h) (mirror_state h)

  mirror_long : (h : History K.Level) → length (installed (mirrors h)) ≡ length (installed h)
  mirror_long h = ap length (mirror_state h).recipe ∙ (mirror_mirrored (installed h)).long

  mirror_left : (h : History K.Level) → left (mirrors h) ≡ left h
  mirror_left h =
      ap₂ ◌-◌
      (ap (λ b. length (steps_of b)) (mirror_state h).recipe ∙ (ap length (steps_mirror (installed h)) ∙ length-map (steps_of (installed h)) mirror_step))
      (mirror_state h).records

  -- a mirrored refusal is the refusal, and what follows a test need be mirrored only where the test is passed
  past_if : (c : Call K.Level) (b b' : Bool) (r : Refusal) (x : Answer (Good (mirror_call K c))) (x' : Answer (Good c)) → b ≡ b' →
      (b' ≡ false → x ≡ mirror_answer K c x') → unless b r x ≡ mirror_answer K c (unless b' r x')
  past_if c b true r x x' e f = ap (λ t. unless t r x) e
  past_if c b false r x x' e f = ap (λ t. unless t r x) e ∙ f refl

  past : (c : Call K.Level) (b b' : Bool) (r : Refusal) (x : Answer (Good (mirror_call K c))) (x' : Answer (Good c)) → b ≡ b' →
      x ≡ mirror_answer K c x' → unless b r x ≡ mirror_answer K c (unless b' r x')
  past c b b' r x x' e f = past_if c b b' r x x' e (λ _. f)

  mirror_housed :
      (s : Setting) (bytes : List ℕ) (a : Answer Sheet) →
      next (mapped mirror_sheet a) (housed s) ≡ mirror_answer K (Admit bytes) (next a (housed s))
  mirror_housed s bytes (refused r) = refl
  mirror_housed s bytes (given sheet) = past (Admit bytes) _ _ (of_cell 19) (given (mirror_sheet sheet)) (given sheet) refl refl

  -- what a take answers in an open run
  abbrev at_take : Setting → ℕ → History K.Level → Answer (List K.Level)
  at_take s n h =
      unless (not (eqb (left h) 0)) (of_cell 5) (unless (not (eqb n (pixels s))) (of_cell 20) (given (image_of K C s (installed h) (laid h))))

  mirror_take :
      (s : Setting) (n : ℕ) (h : History K.Level) → OpenRun K s (installed h) (shown h) (laid h) →
      at_take s n (mirrors h) ≡ mirror_answer K (Take n) (at_take s n h)
  mirror_take s n h r =
      past (Take n) _ _ (of_cell 5) _ _ (ap (λ k. not (eqb k 0)) (mirror_left h))
      (past (Take n) _ _ (of_cell 20) _ (given (image_of K C s (installed h) (laid h))) refl
      (ap given (ap₂ (image_of K C s) (mirror_state h).recipe (mirror_state h).frame ∙ image_negative s (installed h) (laid h) r)))

  answers :
      (s : Setting) (h : History K.Level) → CanHappen K C s h → (c : Call K.Level) →
      defined K C s (mirrors h) (mirror_call K c) ≡ mirror_answer K c (defined K C s h c)
  answers s h can (Admit bytes) =
      past (Admit bytes) _ _ (of_cell 1) _ _ refl
      (past (Admit bytes) _ _ (of_cell 2) _ _ (mirror_state h).running
      (ap (λ a. next a (housed s)) (recipe_mirrored K.ranked bytes).answered ∙ mirror_housed s bytes (checked K.ranked bytes)))
  answers s h can (Lay f) =
      past (Lay f) _ _ (of_cell 1) _ _ refl
      (past (Lay f) _ _ (of_cell 3) _ _ (ap (λ k. eqb k 0) (mirror_long h))
      (past (Lay f) _ _ (of_cell 2) _ _ (mirror_state h).running
      (past (Lay f) _ _ (of_cell 20) _ (given tt) (ap (λ k. not (eqb k (pixels s))) (length-map f K.negation)) refl)))
  answers s h can (Steps n) =
      past (Steps n) _ _ (of_cell 1) _ _ refl
      (past (Steps n) _ _ (of_cell 4) _ (given (min n (left h), left h - min n (left h))) (ap not (mirror_state h).running)
      (ap (λ k. given (min n k, k - min n k)) (mirror_left h)))
  answers s h can (Take n) =
      past (Take n) _ _ (of_cell 1) _ _ refl
      (past_if (Take n) _ _ (of_cell 4) (at_take s n (mirrors h)) (at_take s n h) (ap not (mirror_state h).running)
      (λ o. mirror_take s n h (running K C s h can (passed (is_open h) o))))
  answers s h can Clear = past Clear _ _ (of_cell 1) _ _ refl (past Clear _ _ (of_cell 4) _ (given tt) (ap not (mirror_state h).running) refl)

  mirror_happens : (s : Setting) (h : History K.Level) → CanHappen K C s h → CanHappen K C s (mirrors h)
  mirror_happens s [] can = tt
  mirror_happens s (e ∷ h) can = (mirror_happens s h can.0, ap (mirror_answer K e.call) can.1 ∙ sym (answers s h can.0 e.call))

  -- calls determine answers
  told : (s : Setting) (h : History K.Level) (e : Event K.Level) → e.answer ≡ defined K C s h e.call → e ≡ event e.call (defined K C s h e.call)
  told s h e a = λ i. record { call = e.call; answer = a i }

  one_history : (s : Setting) (h k : History K.Level) → CanHappen K C s h → CanHappen K C s k → calls h ≡ calls k → h ≡ k
  one_history s [] [] a b e = refl
  one_history s [] (y ∷ k) a b e = absurd (let z : ◌≡◌ {A = ℕ} 0 1 = cc in omega arith)
  one_history s (x ∷ h) [] a b e = absurd (let z : ◌≡◌ {A = ℕ} 0 1 = cc in omega arith)
  one_history s (x ∷ h) (y ∷ k) a b e =
      let c : x.call ≡ y.call = cc in
      let t : calls h ≡ calls k = cc in
      let same = one_history s h k a.0 b.0 t in
      ap₂ ◌∷◌ (told s h x a.1 ∙ (ap₂ (λ (l : History K.Level) (d : Call K.Level). event d (defined K C s l d)) same c ∙ sym (told s k y b.1))) same

  calls_mirror : (h : History K.Level) → calls (mirrors h) ≡ map (mirror_call K) (calls h)
  calls_mirror [] = refl
  calls_mirror (e ∷ h) = ap (◌∷◌ (mirror_call K e.call)) (calls_mirror h)

  pub mirror_law : (s : Setting) → MirrorLaw K C s
  mirror_law s = record {
    happens = mirror_happens s;
    answered = λ h h' a b e. one_history s h' (mirrors h) b (mirror_happens s h a) (e ∙ sym (calls_mirror h));
  }
