-- What a run leaves of the block.
use Rattle.std.proofs.Common.{◌≡◌, ℕ, Some, None, Option, ◌+◌, ◌*◌, ◌≤◌, List, length, get_or, sym, ap, ◌∙◌, subst, mul-le-mul_right, arith}
use Rattle.level.specs.Kind.{Kind}
use Rattle.rule.specs.Criterion.{Criterion}
use Rattle.recipe.specs.declared.entry.Sheet.{Sheet}
use Rattle.recipe.specs.Plans.{Answer, given, checked}
use Rattle.steps.specs.Images.{Size}
use Rattle.steps.specs.Planes.{size_of}
use Rattle.steps.specs.Stacks.{plane_at}
use Rattle.steps.specs.declared.extent.Extent.{Extent}
use Rattle.cell.specs.declared.calls.Open.{Open}
use Rattle.cell.specs.declared.calls.Phase.{Phase}
use Rattle.cell.specs.declared.calls.Phase.TheVariants.{Bare, Ready, Running}
use Rattle.cell.specs.Rasters.{Put}
use Rattle.cell.specs.Histories.{History, Setting, size, pixels, installed, state}
use Rattle.cell.specs.Cells.{Behind, InPhase, PhaseLeaves, OpenLeaves}
use Rattle.controller.specs.Runs.{SameFrom, used}

-- nothing has changed, from wherever on
unchanged : {X : Type 0} (n : ℕ) (before after : List X) → after ≡ before → SameFrom n before after
unchanged n before after e k d l = ap (λ xs. get_or xs k d) e

-- an open cell's step leaves what lies behind the scratch plane
phase_past :
    (K : Kind) {X : Type 0} (m : X → K.Level) (C : Criterion) (s : Setting) (e : Extent) (p : Phase) (block after : List X) (h : History K.Level) →
    InPhase K m C s e p block (state h) → PhaseLeaves p e block after → SameFrom (used s (checked K.ranked (installed h))) block after
phase_past K m C s e Bare block after h b l = unchanged _ block after l
phase_past K m C s e (Ready p) block after h b l = unchanged _ block after l
phase_past K m C s e (Running r) block after h b l = λ k d far.
    let f = b.fits in
    let o = f.opened in
    let same : size_of e ≡ size s = λ i. record { width = o.width i; height = o.height i } in
    let sheet = r.plan.sheet in
    let past : (sheet.planes + 2) * pixels s ≤ k = subst (λ (a : Answer Sheet). used s a ≤ k) f.admitted far in
    l.beyond k d (subst (λ (z : Size). plane_at z (2 + sheet.planes) ≤ k) (sym same) (omega arith))

-- a step leaves what lies behind the scratch plane
pub stepped_past :
    (K : Kind) {X : Type 0} (m : X → K.Level) (C : Criterion) (s : Setting) (cell : Option Open) (block after : List X) (h : History K.Level) →
    Behind K m C s cell block h → OpenLeaves cell block after → SameFrom (used s (checked K.ranked (installed h))) block after
stepped_past K m C s None block after h b l = unchanged _ block after l
stepped_past K m C s (Some o) block after h b l = phase_past K m C s o.extent o.phase block after h b.stands l

-- a lay leaves what lies behind the frame
pub laid_past :
    {X : Type 0} (s : Setting) (sheet : Sheet) (a : Answer Sheet) (frame before after : List X) → a ≡ given sheet → length frame ≡ pixels s →
    Put frame before after → SameFrom (used s a) before after
laid_past s sheet a frame before after e long put k d far =
    let n = pixels s in
    let past : (sheet.planes + 2) * n ≤ k = subst (λ (x : Answer Sheet). used s x ≤ k) e far in
    let one : 1 * n ≤ (sheet.planes + 2) * n = mul-le-mul_right n (omega arith) in
    put.rest k d (omega arith)

-- a run leaves what its lay and its steps leave
pub run_past :
    {X : Type 0} (n : ℕ) (before admitted laid stepped after : List X) → admitted ≡ before → SameFrom n admitted laid → SameFrom n laid stepped →
    after ≡ stepped → SameFrom n before after
run_past n before admitted laid stepped after p q r t k d far =
    ap (λ xs. get_or xs k d) t ∙ (r k d far ∙ (q k d far ∙ ap (λ xs. get_or xs k d) p))
