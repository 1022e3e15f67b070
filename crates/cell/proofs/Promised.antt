-- What the sheet promises of a recipe's image, carried to the images taken.
use Rattle.std.proofs.Common.{◌≡◌, ℕ, List, Some, sym, ap, ◌∙◌, subst}
use Rattle.level.specs.declared.side.Side.TheVariants.{Low, High}
use Rattle.level.specs.Kind.{Kind}
use Rattle.rule.specs.Criterion.{Criterion}
use Rattle.recipe.specs.declared.entry.Sheet.{Sheet}
use Rattle.recipe.specs.Plans.{steps_of}
use Rattle.steps.specs.Images.{Size, Sized, Inside, Image, Same, Below}
use Rattle.steps.specs.Recipes.{image}
use Rattle.promise.specs.Laws.{Admitted}
use Rattle.promise.specs.Operators.{Operator, bound_within, Marked}
use Rattle.promise.proofs.Runs.{marks_law, reach_law}
use Rattle.cell.specs.Rasters.{picture, raster}
use Rattle.cell.specs.Histories.{installed, laid, Setting, size}
use Rattle.cell.specs.Laws.{MarksKept, MarkLaw, ReachLaw}
use Rattle.cell.proofs.Pictured.{picture_raster}
use Rattle.cell.proofs.Sound.{works_sized, taken}

some_one : {A : Type 0} {a b : A} → Some a ≡ Some b → a ≡ b
some_one e = cc

-- frames with the same levels have images with the same levels
pub image_same :
    (K : Kind) (C : Criterion) (s : Size) → Sized s → (bytes : List ℕ) (sheet : Sheet) → Admitted K bytes sheet →
    (f g : Image K) → Same K s f g → Same K s (image K C s (steps_of bytes) f) (image K C s (steps_of bytes) g)
image_same K C s sized bytes sheet a f g e p i = (reach_law K C s sized bytes sheet a).of_image f g p i (λ q j n. e q j)

-- g has the levels of the image that φ makes of f, so it keeps the marks of φ
module _
    (K : Kind) (s : Size) (sheet : Sheet) (φ : Operator K) (f g : Image K)
    (m : Marked K s sheet.reach sheet.marks φ) (e : Same K s g (φ f)) (again : Same K s (φ g) (φ (φ f)))
  where
    under : (h : Image K) → Below K s (φ f) h → Below K s g h
    under h b p i = subst (λ a. K.◌⊑◌ a (h p)) (sym (e p i)) (b p i)

    over : (h : Image K) → Below K s h (φ f) → Below K s h g
    over h b p i = subst (λ a. K.◌⊑◌ (h p) a) (sym (e p i)) (b p i)

    marks_kept : MarksKept K s sheet φ f g
    marks_kept = record {
      below = λ t. under f (m.below t f);
      above = λ t. over f (m.above t f);
      keeps = λ t f'. (λ b. under (φ f') (m.keeps t f f' b), λ b. over (φ f') (m.keeps t f' f b));
      turns = λ t f'. (λ b. over (φ f') (m.turns t f f' b), λ b. under (φ f') (m.turns t f' f b));
      settles = λ t p i. again p i ∙ (m.settles t f p i ∙ sym (e p i));
      within = λ t p i. (
        subst (λ a. K.◌⊑◌ (bound_within K s Low sheet.reach f p) a) (sym (e p i)) (m.within t f p i).0,
        subst (λ a. K.◌⊑◌ a (bound_within K s High sheet.reach f p)) (sym (e p i)) (m.within t f p i).1,
      );
    }

module _ (K : Kind) (C : Criterion) where
  -- the list that an image is written as, read again
  read_back : (s : Size) (bytes : List ℕ) (f : Image K) (out : List K.Level) → out ≡ raster K s (image K C s (steps_of bytes) f) →
      Same K s (picture K s out) (image K C s (steps_of bytes) f)
  read_back s bytes f out e p i = ap (λ l. picture K s l p) e ∙ picture_raster K s (image K C s (steps_of bytes) f) p i

  pub mark_law : (s : Setting) → MarkLaw K C s
  mark_law s earlier out t =
      let at = taken K C s earlier out t in
      let z = size s in
      let bytes = installed earlier in
      let f = picture K z (laid earlier) in
      let sheet = at.run.sheet in
      let a = at.run.admitted in
      let sized = works_sized s at.run.working in
      let same = read_back z bytes f out at.image_is in
      record {
        sheet = sheet;
        is_shown = at.run.is_shown;
        admitted = a;
        kept = marks_kept K z sheet (image K C z (steps_of bytes)) f (picture K z out) (marks_law K C z sized bytes sheet a).of_image same
            (image_same K C z sized bytes sheet a (picture K z out) (image K C z (steps_of bytes) f) same);
      }

  pub reach_kept : (s s' : Setting) → ReachLaw K C s s'
  reach_kept s s' e earlier earlier' out out' t t' one sheet answered p i agree =
      let at = taken K C s earlier out t in
      let at' = taken K C s' earlier' out' t' in
      let z = size s in
      let bytes = installed earlier in
      let sized = works_sized s at.run.working in
      let same : at.run.sheet ≡ sheet = some_one (sym at.run.is_shown ∙ answered) in
      let a = subst (Admitted K bytes) same at.run.admitted in
      let i' = subst (λ (y : Size). Inside y p) e i in
      read_back z bytes (picture K z (laid earlier)) out at.image_is p i
      ∙ ((reach_law K C z sized bytes sheet a).of_image (picture K z (laid earlier)) (picture K (size s') (laid earlier')) p i agree
      ∙ (ap (λ b. image K C z (steps_of b) (picture K (size s') (laid earlier')) p) one
      ∙ (ap (λ (y : Size). image K C y (steps_of (installed earlier')) (picture K (size s') (laid earlier')) p) e
      ∙ sym (read_back (size s') (installed earlier') (picture K (size s') (laid earlier')) out' at'.image_is p i'))))
