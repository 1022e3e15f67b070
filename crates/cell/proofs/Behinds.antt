-- What each call leaves behind.
use Rattle.std.proofs.Common.{◌≡◌, ℕ, ◌+◌, ◌-◌, ◌*◌, ◌<◌, ◌≤◌, min, Bool, true, false, eqb, List, [], ◌∷◌, map, length, Some, Option, get_or, take, sym, refl, ap, ◌∙◌, subst, arith}
use Rattle.std.proofs.lemmas.List.{take_all, length-map, get_or-map}
use Rattle.std.proofs.lemmas.Bool.{eq-eqb, ne_eqb, not_from_true, not_from_false}
use Rattle.level.specs.Kind.{Kind}
use Rattle.rule.specs.Criterion.{Criterion}
use Rattle.recipe.specs.declared.fault.Refusal.{Refusal}
use Rattle.recipe.specs.declared.plan.Plan.{Plan}
use Rattle.recipe.specs.declared.step.Step.{Step}
use Rattle.recipe.specs.Plans.{Answer, given, refused, unless, steps_of}
use Rattle.steps.specs.declared.extent.Extent.{Extent}
use Rattle.steps.specs.Images.{Size, Image}
use Rattle.steps.specs.Planes.{size_of, places, index}
use Rattle.steps.specs.Recipes.{planes, top_of}
use Rattle.steps.specs.Stacks.{plane_at, Stacked}
use Rattle.steps.proofs.Written.{index_fits}
use Rattle.cell.specs.declared.calls.Phase.{Phase}
use Rattle.cell.specs.declared.calls.Phase.TheVariants.{Ready, Running}
use Rattle.cell.specs.declared.calls.Open.{Open}
use Rattle.cell.specs.declared.run.Run.{Run}
use Rattle.cell.specs.Refusals.{of_cell}
use Rattle.cell.specs.Rasters.{picture, raster, Put, Got}
use Rattle.cell.specs.Histories.{Call, Lay, Steps, Take, event, History, Setting, size, pixels, works, installed, laid, is_open, done, left, image_of, defined}
use Rattle.cell.specs.Cells.{Opened, Fits, Behind}
use Rattle.cell.specs.Shows.{steps_in, standing, Worked}
use Rattle.cell.proofs.Running.{counted_steps, finished_depth}
use Rattle.cell.proofs.Rastered.{rastered}

pub passes : {A : Type 0} (b : Bool) (r : Refusal) (x : Answer A) → b ≡ false → unless b r x ≡ x
passes b r x e = ap (λ t. unless t r x) e

pub stops : {A : Type 0} (b : Bool) (r : Refusal) (x : Answer A) → b ≡ true → unless b r x ≡ refused r
stops b r x e = ap (λ t. unless t r x) e

-- a cell that is open, at a phase
pub open_at : (c : Option Open) (o : Open) (p : Phase) → c ≡ Some o → o.phase ≡ p → c ≡ Some (record { extent = o.extent; phase = p })
open_at c o p x y = x ∙ ap (λ q. Some (record { extent = o.extent; phase = q })) y

module _ (K : Kind) {X : Type 0} (m : X → K.Level) (C : Criterion) (s : Setting) (e : Extent) where
  abbrev At : Phase → Option Open
  At p = Some (record { extent = e; phase = p })

  same_size : Opened K m C s e → size_of e ≡ size s
  same_size o = λ i. record { width = o.width i; height = o.height i }

  same_places : Opened K m C s e → places (size_of e) ≡ pixels s
  same_places o = ap places (same_size o)

  module _ (block : List X) (h : History K.Level) where
    -- a refused call leaves what stood
    pub refused_keeps : (o : Option Open) (c : Call K.Level) (r : Refusal) → defined K C s h c ≡ refused r → Behind K m C s o block h → Behind K m C s o block (event c (refused r) ∷ h)
    refused_keeps o c r q b = record { can = (b.can, sym q); room = b.room; stands = b.stands }

    -- what is behind a cell is behind the same
    pub in_state : (c d : Option Open) → c ≡ d → Behind K m C s c block h → Behind K m C s d block h
    in_state c d x b = subst (λ y. Behind K m C s y block h) x b

    -- Lay.
    has_recipe : (p : Plan) → Behind K m C s (At (Ready p)) block h → eqb (length (installed h)) 0 ≡ false
    has_recipe p b = ne_eqb _ _ (λ z. none (installed h) z (ap length b.stands.fits.steps))
      where
        none : (bytes : List ℕ) → length bytes ≡ 0 → length (steps_in p) ≡ length (steps_of bytes) → ⊥
        none [] z q = omega (arith, counted_steps p)
        none (x ∷ xs) z q = omega arith

    pub misfit : (p : Plan) (f : List K.Level) → (length f ≡ places (size_of e) → ⊥) → Behind K m C s (At (Ready p)) block h → Behind K m C s (At (Ready p)) block (event (Lay f) (refused (of_cell 20)) ∷ h)
    misfit p f bad b =
        let w = b.stands in
        refused_keeps (At (Ready p)) (Lay f) (of_cell 20)
        (passes _ _ _ (not_from_true (works s) w.fits.opened.open_cell)
        ∙ (passes _ _ _ (has_recipe p b)
        ∙ (passes _ _ _ w.closed
        ∙ stops _ _ _ (not_from_false (eqb (length f) (pixels s)) (ne_eqb _ _ (λ z. bad (z ∙ sym (same_places w.fits.opened))))))))
        b

    pub laid_in :
        (p : Plan) (r : Run) (frame after : List X) → length frame ≡ places (size_of e) → r.plan ≡ p → r.done ≡ 0 → r.depth ≡ 0 →
        Put frame block after → Behind K m C s (At (Ready p)) block h →
        Behind K m C s (At (Running r)) after (event (Lay (map m frame)) (given tt) ∷ h)
    laid_in p r frame after fits same none flat put b =
        let w = b.stands in
        let o = w.fits.opened in
        let f = map m frame in
        let long : length f ≡ pixels s = length-map frame m ∙ (fits ∙ same_places o) in
        let answer : defined K C s h (Lay f) ≡ given tt =
        passes _ _ _ (not_from_true (works s) o.open_cell)
        ∙ (passes _ _ _ (has_recipe p b)
        ∙ (passes _ _ _ w.closed ∙ passes _ _ _ (not_from_true (eqb (length f) (pixels s)) (eq-eqb _ _ long)))) in
        let empty : (g : Image K) → standing K C (size s) g r ≡ [] = λ g. ap (λ k. planes K C (size s) (take k (steps_in r.plan)) g) none in
        record {
          can = (b.can, sym answer);
          room = b.room ∙ sym put.long;
          stands = record {
            fits = subst (λ (x : Plan). Fits K m C s e x after (installed h)) (sym same)
                (record {
                  opened = o;
                  admitted = w.fits.admitted;
                  steps = w.fits.steps;
                  levels = w.fits.levels;
                  houses = subst (λ (k : ℕ). plane_at (size_of e) (2 + p.sheet.planes) ≤ k) (sym put.long) w.fits.houses;
                });
            opened = refl;
            records = sym none;
            shows = record {
              frame = λ q d i.
                  let here : index (size s) q < length frame = omega (arith, index_fits (size s) q i, fits ∙ same_places o) in
                  let z : 0 + index (size s) q ≡ index (size s) q = omega arith in
                  ap (λ k. m (get_or after k d)) z
                  ∙ (ap m (put.front (index (size s) q) d here) ∙ sym (get_or-map m frame (index (size s) q) d K.least here));
              deep = ap length (empty _) ∙ sym flat;
              stack = subst (Stacked K m (size s) after) (sym (empty _)) tt;
            };
          };
        }

    -- Step.
    records_left : (r : Run) → Behind K m C s (At (Running r)) block h → left h ≡ r.plan.count - r.done
    records_left r b =
        let w = b.stands in
        ap (λ (x : List Step). length x - done h) (sym w.fits.steps) ∙ omega (arith, counted_steps r.plan, w.records)

    pub stepped :
        (r r' : Run) (after : List X) (count now rest : ℕ) → now ≡ min count rest → rest ≡ r.plan.count - r.done →
        Worked K m C (size_of e) now r r' block after → Behind K m C s (At (Running r)) block h →
        Behind K m C s (At (Running r')) after (event (Steps count) (given (now, rest - now)) ∷ h)
    stepped r r' after count now rest q l work b =
        let w = b.stands in
        let o = w.fits.opened in
        let k : left h ≡ rest = records_left r b ∙ sym l in
        let answer : defined K C s h (Steps count) ≡ given (now, rest - now) =
        passes _ _ _ (not_from_true (works s) o.open_cell)
        ∙ (passes _ _ _ (not_from_true (is_open h) w.opened)
        ∙ (ap (λ x. given (min count x, x - min count x)) k ∙ ap (λ x. given (x, rest - x)) (sym q))) in
        record {
          can = (b.can, sym answer);
          room = b.room ∙ sym work.leaves.long;
          stands = record {
            fits = subst (λ (x : Plan). Fits K m C s e x after (installed h)) (sym work.plan)
                (record {
                  opened = o;
                  admitted = w.fits.admitted;
                  steps = w.fits.steps;
                  levels = w.fits.levels;
                  houses = subst (λ (k : ℕ). plane_at (size_of e) (2 + r.plan.sheet.planes) ≤ k) (sym work.leaves.long) w.fits.houses;
                });
            opened = w.opened;
            records = omega (arith, w.records, work.done);
            shows = (subst (λ (z : Size). Worked K m C z now r r' block after) (same_size o) work).shows (picture K (size s) (laid h)) w.shows;
          };
        }

    -- Take.
    none_left : (r : Run) → r.plan.count ≤ r.done → Behind K m C s (At (Running r)) block h → eqb (left h) 0 ≡ true
    none_left r all b = eq-eqb _ _ (records_left r b ∙ omega arith)

    pub taken :
        (r : Run) (out : List X) → length out ≡ places (size_of e) → r.plan.count ≤ r.done → Got (r.depth * places (size_of e)) block out →
        Behind K m C s (At (Running r)) block h → Behind K m C s (At (Ready r.plan)) block (event (Take (length out)) (given (map m out)) ∷ h)
    taken r out fits all got b =
        let w = b.stands in
        let o = w.fits.opened in
        let f = picture K (size s) (laid h) in
        let whole : take r.done (steps_in r.plan) ≡ steps_of (installed h) = take_all r.done (steps_in r.plan) (omega (arith, counted_steps r.plan)) ∙ w.fits.steps in
        let same : standing K C (size s) f r ≡ planes K C (size s) (steps_of (installed h)) f = ap (λ (xs : List Step). planes K C (size s) xs f) whole in
        let is : map m out ≡ image_of K C s (installed h) (laid h) =
        rastered K m s f block out (standing K C (size s) f r) r.depth (fits ∙ same_places o) w.shows.deep (finished_depth r all) w.shows.stack (subst (λ (z : ℕ). Got (r.depth * z) block out) (same_places o) got)
        ∙ ap (λ st. raster K (size s) (top_of f st)) same in
        let answer : defined K C s h (Take (length out)) ≡ given (map m out) =
        passes _ _ _ (not_from_true (works s) o.open_cell)
        ∙ (passes _ _ _ (not_from_true (is_open h) w.opened)
        ∙ (passes _ _ _ (not_from_true _ (none_left r all b))
        ∙ (passes _ _ _ (not_from_true (eqb (length out) (pixels s)) (eq-eqb _ _ (fits ∙ same_places o))) ∙ ap given (sym is)))) in
        record { can = (b.can, sym answer); room = b.room; stands = record { fits = w.fits; closed = refl } }

    -- the same, where the length of the output and the number of places go by other names
    pub taken_by :
        (r : Run) (out : List X) (n places' : ℕ) → length out ≡ n → places' ≡ places (size_of e) → n ≡ places' → r.plan.count ≤ r.done → Got (r.depth * places') block out →
        Behind K m C s (At (Running r)) block h → Behind K m C s (At (Ready r.plan)) block (event (Take n) (given (map m out)) ∷ h)
    taken_by r out n places' long many fits all got b =
        subst (λ (k : ℕ). Behind K m C s (At (Ready r.plan)) block (event (Take k) (given (map m out)) ∷ h)) long
        (taken r out (long ∙ (fits ∙ many)) all (subst (λ (k : ℕ). Got (r.depth * k) block out) many got) b)
