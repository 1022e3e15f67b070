-- The table's entries, read from the top down, follow the machine on entries.
use Rattle.std.proofs.Common.{◌≡◌, ℕ, zero, suc, ◌<◌, ◌≤◌, max, true, ◌≢◌, List, ◌∷◌, length, get_or, set, sym, refl, ap, ◌∙◌, ap₂, arith, get_or-set_other, get_or-set_same}
use Rattle.recipe.specs.declared.entry.Entry.{Entry}
use Rattle.recipe.specs.Steps.{Change, Merge, Form, start, change, merge, wants, adds}
use Rattle.recipe.specs.Machines.{by_form, stepped}
use Rattle.recipe.specs.Plans.{Progress, grown}
use Rattle.recipe.specs.declared.step.Step.{Step}
use Rattle.recipe.specs.Sheets.{frame_entry, after, of_two, on_entries}
use Rattle.recipe.specs.Tables.{no_entry, top_down}

pub top_down_length : (es : List Entry) (d : ℕ) → length (top_down es d) ≡ d
top_down_length es zero = refl
top_down_length es (suc d) = ap suc (top_down_length es d)

-- an entry above the stack is not read
pub top_down_above : (es : List Entry) (k : ℕ) (e : Entry) (d : ℕ) → d ≤ k → top_down (set es k e) d ≡ top_down es d
top_down_above es k e zero l = refl
top_down_above es k e (suc d) l =
    let apart : d ≢ k = omega arith in
    ap₂ ◌∷◌ (get_or-set_other es k d e no_entry apart) (top_down_above es k e d (omega arith))

module _ (es : List Entry) (k : ℕ) (e : Entry) (low : k < length es) where
  -- the stack with an entry written at its top
  topped : top_down (set es k e) (suc k) ≡ e ∷ top_down es k
  topped = ap₂ ◌∷◌ (get_or-set_same es k e no_entry low) (top_down_above es k e k (omega arith))

  pub grows_start : (f : Form) → wants f ≡ 0 → e ≡ frame_entry → top_down (set es k e) (suc k) ≡ by_form on_entries f (top_down es k)
  grows_start start w h = topped ∙ ap (λ x. x ∷ top_down es k) h
  grows_start (change c) w h = absurd (let z : ⊥ = omega arith in z)
  grows_start (merge m) w h = absurd (let z : ⊥ = omega arith in z)

  pub grows_change :
      (f : Form) → wants f ≡ 1 → ((c : Change) → f ≡ change c → e ≡ after c (get_or es k no_entry)) →
      top_down (set es k e) (suc k) ≡ by_form on_entries f (top_down es (suc k))
  grows_change start w h = absurd (let z : ⊥ = omega arith in z)
  grows_change (change c) w h = topped ∙ ap (λ x. x ∷ top_down es k) (h c refl)
  grows_change (merge m) w h = absurd (let z : ⊥ = omega arith in z)

  pub grows_merge :
      (f : Form) → (wants f ≡ 0 → ⊥) → (wants f ≡ 1 → ⊥) →
      ((m : Merge) → f ≡ merge m → e ≡ of_two m (get_or es k no_entry) (get_or es (suc k) no_entry)) →
      top_down (set es k e) (suc k) ≡ by_form on_entries f (top_down es (suc (suc k)))
  grows_merge start u v h = absurd (u refl)
  grows_merge (change c) u v h = absurd (v refl)
  grows_merge (merge m) u v h = topped ∙ ap (λ x. x ∷ top_down es k) (h m refl)

-- a table whose entries followed the step has grown as defined
pub grown_is :
    (x : Step) (es : List Entry) (d p : ℕ) (es' : List Entry) (d' p' : ℕ) →
    top_down es' d' ≡ stepped on_entries x (top_down es d) → p' ≡ max p d' →
    ◌≡◌ {A = Progress} (record { entries = top_down es' d'; planes = p' }) (grown x (record { entries = top_down es d; planes = p }))
grown_is x es d p es' d' p' e h =
    let q = h ∙ ap (max p) (sym (top_down_length es' d') ∙ ap length e) in
    λ i. record { entries = e i; planes = q i }

-- what wants no plane adds one
pub adds_one : (f : Form) → wants f ≡ 0 → adds f ≡ true
adds_one start w = refl
adds_one (change c) w = absurd (let z : ⊥ = omega arith in z)
adds_one (merge m) w = absurd (let z : ⊥ = omega arith in z)
