-- The promises over histories: what holds of every image taken, whatever was called before it and after it.
use Rattle.std.specs.Prelude.{◌≡◌, ℕ, T, List, [], ◌∷◌, ◌++◌, map, Some, None, Option}
use Rattle.level.specs.declared.side.Side.TheVariants.{Low, High}
use Rattle.level.specs.Kind.{Kind}
use Rattle.rule.specs.Criterion.{Criterion}
use Rattle.recipe.specs.declared.entry.Sheet.{Sheet}
use Rattle.recipe.specs.Mirrors.{mirror, mirror_sheet}
use Rattle.recipe.specs.Plans.{Answer, given, refused, steps_of}
use Rattle.steps.specs.Images.{Size, Place, Inside, Image, Below, Same}
use Rattle.steps.specs.Recipes.{image}
use Rattle.promise.specs.Laws.{Admitted}
use Rattle.promise.specs.Operators.{Operator, near, bound_within}
use Rattle.cell.specs.Rasters.{picture}
use Rattle.cell.specs.Histories.{Call, Admit, Lay, Steps, Take, Clear, Good, Event, event, History, installed, laid, Setting, size, image_of, CanHappen}

-- the sheet that the last accepted admit answered
abbrev pub shown_by : {L : Type 0} → (c : Call L) → Answer (Good c) → Option Sheet → Option Sheet
shown_by c (refused r) before = before
shown_by (Admit bytes) (given sheet) before = Some sheet
shown_by (Lay f) (given a) before = before
shown_by (Steps n) (given a) before = before
shown_by (Take n) (given a) before = before
shown_by Clear (given a) before = before

abbrev pub shown : {L : Type 0} → History L → Option Sheet
shown [] = None
shown (e ∷ h) = shown_by e.call e.answer (shown h)

-- the calls of a history without their answers
abbrev pub calls : {L : Type 0} → History L → List (Call L)
calls h = map (λ e. e.call) h

module _ (K : Kind) where
  -- the mirrored call: a recipe mirrored, a frame negated
  abbrev pub mirror_call : Call K.Level → Call K.Level
  mirror_call (Admit bytes) = Admit (mirror bytes)
  mirror_call (Lay f) = Lay (map K.negation f)
  mirror_call (Steps n) = Steps n
  mirror_call (Take n) = Take n
  mirror_call Clear = Clear

  -- the mirrored answer: the same refusal, the sheet with B and D exchanged, the same numbers, the image negated
  abbrev pub mirror_answer : (c : Call K.Level) → Answer (Good c) → Answer (Good (mirror_call c))
  mirror_answer c (refused r) = refused r
  mirror_answer (Admit bytes) (given sheet) = given (mirror_sheet sheet)
  mirror_answer (Lay f) (given a) = given a
  mirror_answer (Steps n) (given counts) = given counts
  mirror_answer (Take n) (given out) = given (map K.negation out)
  mirror_answer Clear (given a) = given a

  -- the mirrored call with the mirrored answer
  abbrev pub mirrored : Event K.Level → Event K.Level
  mirrored e = event (mirror_call e.call) (mirror_answer e.call e.answer)

  -- g, which φ made of the frame f, keeps every mark on the sheet, also against what φ makes of any other frame
  pub record MarksKept (s : Size) (sheet : Sheet) (φ : Operator K) (f g : Image K) : Type 0 where
    -- B: the image is below its frame
    pub below : T sheet.marks.below → Below K s g f
    -- D: the frame is below its image
    pub above : T sheet.marks.above → Below K s f g
    -- K: of a frame above this one the image is above, of a frame below it the image is below
    pub keeps : T sheet.marks.keeps → (f' : Image K) → (Below K s f f' → Below K s g (φ f')) × (Below K s f' f → Below K s (φ f') g)
    -- T: of a frame above this one the image is below, of a frame below it the image is above
    pub turns : T sheet.marks.turns → (f' : Image K) → (Below K s f f' → Below K s (φ f') g) × (Below K s f' f → Below K s g (φ f'))
    -- S: the image, laid as a frame, gives itself
    pub settles : T sheet.marks.settles → Same K s (φ g) g
    -- W: each pixel lies between the meet and the join of the frame within the sheet's reach
    pub within :
        T sheet.marks.within → (p : Place) → Inside s p →
        (K.◌⊑◌ (bound_within K s Low sheet.reach f p) (g p)) × (K.◌⊑◌ (g p) (bound_within K s High sheet.reach f p))

  -- two frames agree within r of a place
  abbrev pub AgreeNear : Size → ℕ → Place → Image K → Image K → Type 0
  AgreeNear s r p f g = (q : Place) → Inside s q → T (near r p q) → f q ≡ g q

module _ (K : Kind) (C : Criterion) where
  -- in a history that can happen, out was taken after the earlier calls
  pub record Taken (s : Setting) (earlier : History K.Level) (out : List K.Level) : Type 0 where
    pub asked : ℕ
    pub later : History K.Level
    pub happens : CanHappen K C s (later ++ (event (Take asked) (given out) ∷ earlier))

  -- an image taken is the image that the recipe last installed makes of the frame last laid
  abbrev pub ImageLaw : Setting → Type 0
  ImageLaw s =
      (earlier : History K.Level) (out : List K.Level) → Taken s earlier out → out ≡ image_of K C s (installed earlier) (laid earlier)

  -- the recipe of an image taken is admitted with the sheet that was shown, and the image keeps every mark on it
  pub record MarkedImage (s : Setting) (earlier : History K.Level) (out : List K.Level) : Type 0 where
    pub sheet : Sheet
    pub is_shown : shown earlier ≡ Some sheet
    pub admitted : Admitted K (installed earlier) sheet
    pub kept :
        MarksKept K (size s) sheet (image K C (size s) (steps_of (installed earlier))) (picture K (size s) (laid earlier))
        (picture K (size s) out)

  -- every image taken keeps every mark on its sheet
  abbrev pub MarkLaw : Setting → Type 0
  MarkLaw s = (earlier : History K.Level) (out : List K.Level) → Taken s earlier out → MarkedImage s earlier out

  -- on a second new cell of the same setting the mirrored calls can happen, and get the mirrored answers alone
  pub record MirrorLaw (s : Setting) : Type 0 where
    pub happens : (h : History K.Level) → CanHappen K C s h → CanHappen K C s (map (mirrored K) h)
    pub answered :
        (h h' : History K.Level) → CanHappen K C s h → CanHappen K C s h' → calls h' ≡ map (mirror_call K) (calls h) →
        h' ≡ map (mirrored K) h

  -- two images taken under one recipe, in one history or in two, agree at a place where their frames, of one size, agree within
  -- the reach of the sheet shown
  abbrev pub ReachLaw : Setting → Setting → Type 0
  ReachLaw s s' =
      size s ≡ size s' →
      (earlier earlier' : History K.Level) (out out' : List K.Level) → Taken s earlier out → Taken s' earlier' out' →
      installed earlier ≡ installed earlier' → (sheet : Sheet) → shown earlier ≡ Some sheet →
      (p : Place) → Inside (size s) p →
      AgreeNear K (size s) sheet.reach p (picture K (size s) (laid earlier)) (picture K (size s') (laid earlier')) →
      picture K (size s) out p ≡ picture K (size s') out' p
