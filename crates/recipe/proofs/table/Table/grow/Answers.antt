use Rattle.std.proofs.Common.{◌≡◌, suc, ◌-◌, ◌⊎◌, get_or, set, sym, refl, ap, ◌∙◌, ap₂, ⊎_elim, add-one, arith}
use Rattle.recipe.specs.declared.step.Step.{Step}
use Rattle.recipe.specs.declared.step.Step.TheVariants.{Frame, Negate, Erode, Dilate, Open, Close, Meet, Join, MeanLow, MeanHigh, SelectLow, SelectHigh}
use Rattle.recipe.specs.Steps.{form, wants, adds}
use Rattle.recipe.specs.Machines.{by_form}
use Rattle.recipe.specs.Sheets.{of_two, on_entries}
use Rattle.recipe.specs.Tables.{no_entry, top_down}
use Rattle.recipe.proofs.Stacks.{grown_is, grows_start, grows_change, grows_merge}
use Rattle.recipe.proofs.table.Table.grow.Goals as goal
use Rattle.recipe.proofs.table.Table.grow.Goals.{in-Frame, in-Meet, in_default}

merges : (x : Step) → (x ≡ Meet) ⊎ ((x ≡ Join) ⊎ ((x ≡ MeanLow) ⊎ (x ≡ MeanHigh))) → wants (form x) ≡ 2
merges x h =
    let two = λ (y : Step). λ (e : x ≡ y). ap (λ z. wants (form z)) e in
    ⊎_elim (two Meet) (⊎_elim (two Join) (⊎_elim (two MeanLow) (two MeanHigh))) h

changes : (x : Step) → (x ≡ Frame → ⊥) → (x ≡ Meet → ⊥) → (x ≡ Join → ⊥) → (x ≡ MeanLow → ⊥) → (x ≡ MeanHigh → ⊥) → wants (form x) ≡ 1
changes Frame f m j l h = absurd (f refl)
changes Negate f m j l h = refl
changes (Erode e) f m j l h = refl
changes (Dilate e) f m j l h = refl
changes (Open e) f m j l h = refl
changes (Close e) f m j l h = refl
changes Meet f m j l h = absurd (m refl)
changes Join f m j l h = absurd (j refl)
changes MeanLow f m j l h = absurd (l refl)
changes MeanHigh f m j l h = absurd (h refl)
changes (SelectLow e) f m j l h = refl
changes (SelectHigh e) f m j l h = refl

pub returns : goal.returns
returns c =
    let x = c.args.step in
    let es = c.args.self.now.entries in
    let d = c.args.self.now.depth in
    elim c.match-step.branch [
      | in-Frame w ↦
          let e = w.frame.result in
          let none : wants (form x) ≡ 0 = ap (λ y. wants (form y)) w.in-Frame.is in
          let room = c.requires.room (ap (λ y. adds (form y)) w.in-Frame.is) in
          let s = grows_start es d e (omega arith) (form x) none w.frame.ensures in
          grown_is x es d _ _ _ _
          (ap₂ top_down (ap (λ t. t.1.0) w.self-is) (ap (λ t. t.1.1.0) w.self-is) ∙ (ap (top_down (set es d e)) (add-one d) ∙ s))
          c.max-self.ensures
      | in-Meet w ↦
          let e = w.merged.result in
          let k = d - 2 in
          let two = merges x w.in-Meet.is in
          let up : suc (suc k) ≡ d = omega arith in
          let below : d - 1 ≡ suc k = omega arith in
          let s = grows_merge es k e (omega arith) (form x) (λ z. omega arith) (λ z. omega arith)
          (λ m h. w.merged.ensures m h ∙ ap (λ n. of_two m (get_or es k no_entry) (get_or es n no_entry)) below) in
          grown_is x es d _ _ _ _
          (ap₂ top_down (ap (λ t. t.1.0) w.self-is) (ap (λ t. t.1.1.0) w.self-is)
          ∙ (ap (top_down (set es k e)) below ∙ (s ∙ ap (λ n. by_form on_entries (form x) (top_down es n)) up)))
          c.max-self.ensures
      | in_default w ↦
          let e = w.changed.result in
          let k = d - 1 in
          let n = w.in_default in
          let one = changes x n.not-Frame n.not-Meet n.not-Join n.not-MeanLow n.not-MeanHigh in
          let up : suc k ≡ d = omega arith in
          let s = grows_change es k e (omega arith) (form x) one w.changed.ensures in
          grown_is x es d _ _ _ _
          (ap₂ top_down (ap (λ t. t.1.0) w.self-is) (ap (λ t. t.1.1.0) w.self-is)
          ∙ (ap (top_down (set es k e)) (sym up) ∙ (s ∙ ap (λ n. by_form on_entries (form x) (top_down es n)) up)))
          c.max-self.ensures
    ]
