-- A plan's steps walked again: none is refused, and each has its line.
use Rattle.std.proofs.Common.{◌≡◌, ℕ, zero, suc, ◌+◌, ◌<◌, ◌≤◌, Bool, true, false, not, ◌&&◌, ◌||◌, leb, List, [], ◌∷◌, ◌++◌, length, get_or, take, drop, set, Ok, Err, Result, sym, refl, ap, ◌∙◌, subst, ap₂, add-one, arith, length-set}
use Rattle.std.proofs.lemmas.List.{take_more, take_more_set, at_drop_more}
use Rattle.std.proofs.lemmas.Bool.{and_parts, leb-true, le-ltb, lt-leb}
use Rattle.recipe.specs.declared.fault.PlanFault.{PlanFault}
use Rattle.recipe.specs.declared.plan.Plan.{Plan}
use Rattle.recipe.specs.declared.step.Step.{Step}
use Rattle.recipe.specs.declared.step.Step.TheVariants.{Frame}
use Rattle.recipe.specs.declared.table.Table.{Table}
use Rattle.recipe.specs.Steps.{Form, start, change, merge, form, wants, reads_ranks, adds}
use Rattle.recipe.specs.Machines.{Machine, stepped, run}
use Rattle.recipe.specs.Depths.{deeper, runs}
use Rattle.recipe.specs.Sheets.{on_entries, top}
use Rattle.recipe.specs.Plans.{given, Progress, grown, lacks_ranks, lacks_planes, lacks_room, placed}
use Rattle.recipe.specs.Tables.{progress}
use Rattle.recipe.specs.Answers.{left_answer}
use Rattle.recipe.proofs.Checking.{by_form_length}
use Rattle.recipe.proofs.Refusing.{pass}
use Rattle.recipe.proofs.Stacks.{top_down_length}
use Rattle.report.specs.declared.line.Line.{Line}
use Rattle.report.specs.Lines.{line_of, line_at, lines_from}

-- One step more at the end.

run_push : {A : Type 0} (M : Machine A) (xs : List Step) (x : Step) (st : List A) → run M (xs ++ (x ∷ [])) st ≡ stepped M x (run M xs st)
run_push M [] x st = refl
run_push M (y ∷ ys) x st = run_push M ys x (stepped M y st)

lines_push : (xs : List Step) (n i : ℕ) → lines_from xs (suc n) i ≡ lines_from xs n i ++ (line_at xs (i + n) ∷ [])
lines_push xs zero i = let e : i ≡ i + 0 = omega arith in ap (λ j. line_at xs j ∷ []) e
lines_push xs (suc n) i =
    let e : i + 1 + n ≡ i + suc n = omega arith in
    ap (λ ls. line_at xs i ∷ ls) (lines_push xs n (i + 1) ∙ ap (λ j. lines_from xs n (i + 1) ++ (line_at xs j ∷ [])) e)

-- A step of steps that run is placed.

ranks_found : (a b : Bool) → (not a || b) ≡ true → (a && not b) ≡ false
ranks_found true true e = refl
ranks_found true false e = sym e
ranks_found false b e = refl

room_found : (f : Form) (d : ℕ) → deeper f d ≤ 4 → (adds f && leb 4 d) ≡ false
room_found start d l = lt-leb 4 d (omega arith)
room_found (change c) d l = refl
room_found (merge m) d l = refl

pub record RunsOn (ranked : Bool) (p i : ℕ) (x : Step) (xs : List Step) (t : Progress) : Type 0 where
  pub placed_is : placed ranked i x t ≡ given (grown x t)
  pub rest_runs : runs ranked p (length (grown x t).entries) xs ≡ true

runs_on :
    (ranked : Bool) (p i : ℕ) (x : Step) (xs : List Step) (t : Progress) → p ≤ 4 →
    runs ranked p (length t.entries) (x ∷ xs) ≡ true → RunsOn ranked p i x xs t
runs_on ranked p i x xs t low h =
    let d = length t.entries in
    let a = and_parts (not (reads_ranks (form x)) || ranked) _ h in
    let b = and_parts (leb (wants (form x)) d) _ a.1 in
    let c = and_parts (leb (deeper (form x) d) p) _ b.1 in
    let planes = leb-true (wants (form x)) d b.0 in
    let deep : deeper (form x) d ≤ 4 = omega (arith, leb-true (deeper (form x) d) p c.0) in
    record {
      placed_is =
          sym
          (pass (lacks_ranks ranked x) _ _ _ (ranks_found (reads_ranks (form x)) ranked a.0)
          (pass (lacks_planes d x) _ _ _ (le-ltb d (wants (form x)) planes)
          (pass (lacks_room d x) _ _ _ (room_found (form x) d deep) refl)));
      rest_runs = subst (λ n. runs ranked p n xs ≡ true) (sym (by_form_length on_entries (form x) t.entries planes)) c.1;
    }

left_given : {A : Type 0} (a b : A) (r : Result (Unit {0}) PlanFault) → left_answer a r ≡ given b → a ≡ b
left_given a b (Ok u) e = cc
left_given a b (Err f) e = absurd (let z : ◌≡◌ {A = ℕ} 0 1 = cc in omega arith)

-- the steps of a plan
abbrev pub steps_in : Plan → List Step
steps_in plan = take plan.count plan.steps

-- after i steps: the stack is theirs, the others run on, and each has its line
pub record Walked (plan : Plan) (i : ℕ) (t : Table) (ls : List Line) : Type 0 where
  pub stands : (progress t).entries ≡ run on_entries (take i (steps_in plan)) []
  pub goes_on : runs plan.ranked plan.sheet.planes (length (progress t).entries) (drop i (steps_in plan)) ≡ true
  pub written : take i ls ≡ lines_from (steps_in plan) i 0
  pub long : length ls ≡ 64

module _ {plan : Plan} {i : ℕ} {t : Table} {ls : List Line} (w : Walked plan i t ls)
    (less : i < length (steps_in plan)) (room : i < 64) (low : plan.sheet.planes ≤ 4)
    (x : Step) (is : get_or (steps_in plan) i Frame ≡ x)
    (u : Table) (r : Result (Unit {0}) PlanFault)
    (answer : left_answer (progress u) r ≡ placed plan.ranked i x (progress t)) where
  next_runs : RunsOn plan.ranked plan.sheet.planes i x (drop (i + 1) (steps_in plan)) (progress t)
  next_runs =
      let xs = steps_in plan in
      let d = length (progress t).entries in
      runs_on plan.ranked plan.sheet.planes i x (drop (i + 1) xs) (progress t) low
      (ap (λ y. runs plan.ranked plan.sheet.planes d (y ∷ drop (i + 1) xs)) (sym is)
      ∙ (sym (at_drop_more (runs plan.ranked plan.sheet.planes d) xs i Frame less) ∙ w.goes_on))

  grows : progress u ≡ grown x (progress t)
  grows = left_given (progress u) (grown x (progress t)) r (answer ∙ next_runs.placed_is)

  now_stands : (progress u).entries ≡ run on_entries (take (i + 1) (steps_in plan)) []
  now_stands =
      let xs = steps_in plan in
      ap (λ (v : Progress). v.entries) grows
      ∙ (ap (stepped on_entries x) w.stands
      ∙ (sym (run_push on_entries (take i xs) x [])
      ∙ ap (λ ys. run on_entries ys []) (ap (λ y. take i xs ++ (y ∷ [])) (sym is) ∙ sym (take_more xs i Frame less))))

  pub walked_on : (l : Line) → l ≡ line_of i x u.depth (top (progress u).entries) → Walked plan (i + 1) u (set ls i l)
  walked_on l e =
      let xs = steps_in plan in
      let within : i < length ls = omega (arith, w.long) in
      let deep = sym (top_down_length u.entries u.depth) in
      let line : l ≡ line_at xs i =
      e ∙ (ap (λ d. line_of i x d (top (progress u).entries)) deep ∙ ap₂ (λ y st. line_of i y (length st) (top st)) (sym is) now_stands) in
      let z : 0 + i ≡ i = omega arith in
      record {
        stands = now_stands;
        goes_on = subst (λ (v : Progress). runs plan.ranked plan.sheet.planes (length v.entries) (drop (i + 1) xs) ≡ true) (sym grows) next_runs.rest_runs;
        written =
            take_more_set ls i l within
            ∙ (ap₂ (λ ks k. ks ++ (k ∷ [])) w.written line
            ∙ (ap (λ j. lines_from xs i 0 ++ (line_at xs j ∷ [])) (sym z) ∙ (sym (lines_push xs i 0) ∙ ap (λ n. lines_from xs n 0) (sym (add-one i)))));
        long = length-set ls i l ∙ w.long;
      }
