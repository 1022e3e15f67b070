use Rattle.std.proofs.Common.{◌≡◌, ℕ, zero, suc, [], get_or, not-suc-le-zero, le_of_suc-le-suc, ◌+◌, ◌*◌, ◌/◌, ◌<◌, ◌≤◌, List, length, take, drop, sym, refl, ap, ◌∙◌, subst, arith, length-set}
use Rattle.std.specs.Simd.{first_chunks}
use Rattle.std.proofs.lemmas.List.{drop-drop}
use Rattle.std.proofs.lemmas.Result.{err_from_is_err_and}
use Rattle.recipe.specs.declared.step.Step.{Step}
use Rattle.recipe.specs.Refusals.{record_refusal, plan_refusal}
use Rattle.recipe.specs.Plans.{Answer, given, reads, record_at, steps_of, steps_from}
use Rattle.recipe.specs.Tables.{progress}
use Rattle.recipe.proofs.Checking.{read_is, read_refused, place_refused, place_given, steps_next}
use Rattle.recipe.proofs.Passing.{records_few, stopped, left_over, passed, sound, low}
use Rattle.recipe.proofs.Stacks.{top_down_length}
use Rattle.recipe.proofs.plan.Plan.check.Goals as goal

-- a chunk of the bytes is the record at its place
chunk_is : (k : ℕ) (bytes : List ℕ) (i : ℕ) → i < k → get_or (first_chunks 8 k bytes) i [] ≡ record_at bytes i
chunk_is zero bytes i l = absurd (not-suc-le-zero l)
chunk_is (suc k) bytes zero l = refl
chunk_is (suc k) bytes (suc i) l =
    let along : 8 + 8 * i ≡ 8 * suc i = omega arith in
    chunk_is k (drop 8 bytes) i (le_of_suc-le-suc l) ∙ (ap (take 8) (drop-drop (8 * i) 8 bytes) ∙ ap (λ n. take 8 (drop n bytes)) along)

-- what is read of a chunk is read of the record
recorded : (bytes : List ℕ) (records : List (List ℕ)) (i : ℕ) (a : Answer Step) → records ≡ first_chunks 8 (length bytes / 8) bytes →
    i < length bytes / 8 → a ≡ reads i (get_or records i []) → reads i (record_at bytes i) ≡ a
recorded bytes records i a front l e =
    sym (e ∙ ap (reads i) (ap (λ rs. get_or rs i []) front ∙ chunk_is (length bytes / 8) bytes i l))

pub returns-in_err-step-clause-answer : goal.returns-in_err-step-clause-answer
returns-in_err-step-clause-answer c =
    let p = err_from_is_err_and c.from_residual.result c.from_residual.ensures.1 in
    let bytes = c.args.bytes.now in
    let i = c.loop-i.i in
    let inside : i < length bytes / 8 = omega (arith, c.as_chunks.ensures.front_len) in
    let r = record_refusal c.in_err-step.field-0.0 in
    let read = recorded bytes _ i _ c.as_chunks.ensures.front inside c.in_err-step.ensures in
    let at = read_refused c.args.ranked bytes (length bytes / 8) i (progress c.loop-i.table) inside r read in
    rw (p.1, p.2) (stopped c.args.ranked bytes c.if-length.false r (c.loop-i.invariant.0 ∙ at))

pub returns-in_err-place-clause-answer : goal.returns-in_err-place-clause-answer
returns-in_err-place-clause-answer c =
    let p = err_from_is_err_and c.from_residual-in_err-place.result c.from_residual-in_err-place.ensures.1 in
    let bytes = c.args.bytes.now in
    let i = c.loop-i.i in
    let inside : i < length bytes / 8 = omega (arith, c.as_chunks.ensures.front_len) in
    let r = plan_refusal c.in_err-place.field-0.0 in
    let read = recorded bytes _ i _ c.as_chunks.ensures.front inside c.in_ok-step.ensures in
    let at = place_refused c.args.ranked bytes (length bytes / 8) i (progress c.loop-i.table) inside c.in_ok-step.step read r (sym c.in_err-place.ensures.answer) in
    rw (p.1, p.2) (stopped c.args.ranked bytes c.if-length.false r (c.loop-i.invariant.0 ∙ at))

pub loop-i-preserved : goal.loop-i-preserved
loop-i-preserved c =
    let bytes = c.args.bytes.now in
    let i = c.loop-i.i in
    let inside : i < length bytes / 8 = omega (arith, c.as_chunks.ensures.front_len) in
    let x = c.in_ok-step.step in
    let u = progress c.place.new.self in
    let read = recorded bytes _ i _ c.as_chunks.ensures.front inside c.in_ok-step.ensures in
    let few = records_few (length bytes) c.if-length.false in
    let room : i < length c.loop-i.steps = omega (arith, c.loop-i.invariant.2) in (
      c.loop-i.invariant.0 ∙ place_given c.args.ranked bytes (length bytes / 8) i (progress c.loop-i.table) inside x read u (sym c.in_ok-place.ensures.answer),
      steps_next bytes c.loop-i.steps i x room (read_is i (record_at bytes i) x read) c.loop-i.invariant.1,
      length-set c.loop-i.steps i x ∙ c.loop-i.invariant.2,
    )

pub returns-then-table-gt1-clause-answer : goal.returns-then-table-gt1-clause-answer
returns-then-table-gt1-clause-answer c =
    let t = c.loop-i.table in
    let deep = top_down_length t.entries t.depth in
    let past : length c.args.bytes.now / 8 ≤ c.loop-i.i = omega (arith, c.as_chunks.ensures.front_len) in
    left_over c.args.ranked c.args.bytes.now c.if-length.false c.loop-i.i (progress t) past c.loop-i.invariant.0 (omega arith)

-- all steps are written
filled : (bytes : List ℕ) (steps : List Step) (i count : ℕ) → count ≡ length bytes / 8 → count ≤ i → i ≤ count → take i steps ≡ steps_from bytes i 0 → take count steps ≡ steps_of bytes
filled bytes steps i count n l k e =
    let all : i ≡ count = omega arith in
    subst (λ m. take m steps ≡ steps_from bytes m 0) all e ∙ ap (λ m. steps_from bytes m 0) n

pub invariant_of-result : goal.invariant_of-result
invariant_of-result c =
    let bytes = c.args.bytes.now in
    let t = c.loop-i.table in
    let deep = top_down_length t.entries t.depth in
    let past : length bytes / 8 ≤ c.loop-i.i = omega (arith, c.as_chunks.ensures.front_len) in
    let few = records_few (length bytes) c.if-length.false in
    let planes : c.sheet.result.planes ≡ t.planes = ap (λ s. s.planes) c.sheet.ensures in
    let one = low c.args.ranked bytes c.if-length.false c.loop-i.i (progress t) past c.loop-i.invariant.0 (omega arith) in
    let all = sound c.args.ranked bytes c.if-length.false c.loop-i.i (progress t) past c.loop-i.invariant.0 (omega arith) in
    let steps = filled bytes c.loop-i.steps c.loop-i.i _ c.as_chunks.ensures.front_len c.loop-i-test.false (omega arith) c.loop-i.invariant.1 in
    record { long = c.loop-i.invariant.2; some = omega (arith, few.0, c.as_chunks.ensures.front_len); few = omega (arith, few.1, c.as_chunks.ensures.front_len); low = omega arith; sound = rw (planes, steps) all }

pub returns-clause-answer : goal.returns-clause-answer
returns-clause-answer c =
    let t = c.loop-i.table in
    let deep = top_down_length t.entries t.depth in
    let past : length c.args.bytes.now / 8 ≤ c.loop-i.i = omega (arith, c.as_chunks.ensures.front_len) in
    ap given c.sheet.ensures ∙ passed c.args.ranked c.args.bytes.now c.if-length.false c.loop-i.i (progress t) past c.loop-i.invariant.0 (omega arith)
