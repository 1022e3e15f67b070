-- The entries' chains tell how planes were made: S stands exactly on chains.
use Rattle.std.proofs.Common.{◌≡◌, ℕ, Bool, true, false, cond, eqb, ◌↔◌, List, [], sym, refl, ap, ◌∙◌, subst, arith}
use Rattle.std.proofs.lemmas.Bool.{eqb-true, eqb-false}
use Rattle.level.specs.declared.side.Side.{Side}
use Rattle.recipe.specs.declared.element.Element.{Element}
use Rattle.recipe.specs.declared.entry.Chain.{Chain}
use Rattle.recipe.specs.declared.entry.Chain.TheVariants.{OfAny, Of, Broken}
use Rattle.recipe.specs.declared.entry.Entry.{Entry}
use Rattle.recipe.specs.declared.entry.Sheet.{Sheet}
use Rattle.recipe.specs.Steps.{Change, negation, folding, filtering, selecting, Merge, bounding, averaging}
use Rattle.recipe.specs.Machines.{run}
use Rattle.recipe.specs.Sheets.{longer, after, of_two, on_entries, settles, top}
use Rattle.recipe.specs.Plans.{steps_of}
use Rattle.recipe.specs.Laws.{Making, changed, merged, on_makings, ChainOf, frame, filtered, last_making, SettlesLaw}
use Rattle.recipe.proofs.Admitting.{sheet_is}
use Rattle.recipe.proofs.Machining.{Pairwise, nil, cons, run_related}

-- what an entry's chain tells of the making
abbrev Told : Chain → Making → Type 0
Told OfAny m = (n : Element) → ChainOf n m
Told (Of k) m = ChainOf k m × ((n : Element) → ChainOf n m → n ≡ k)
Told Broken m = (n : Element) → ChainOf n m → ⊥

-- an open or a close that is a chain is one by its own element, of a chain
inner : {d : Side} {n k : Element} {m : Making} → ChainOf k (changed (filtering d n) m) → (k ≡ n) × ChainOf n m
inner (filtered d c) = (refl, c)

told_longer : (d : Side) (n : Element) (c : Chain) (m : Making) → Told c m → Told (longer n c) (changed (filtering d n) m)
told_longer d n OfAny m h = (filtered d (h n), λ k c. (inner c).0)
told_longer d n (Of j) m h = pick (eqb j.bits n.bits) refl
  where
    pick : (b : Bool) → eqb j.bits n.bits ≡ b → Told (cond b (Of n) Broken) (changed (filtering d n) m)
    pick true e =
        let same : j ≡ n = λ i. record { bits = eqb-true j.bits n.bits e i } in
        (filtered d (subst (λ k. ChainOf k m) same h.0), λ k c. (inner c).0)
    pick false e = λ k c. eqb-false j.bits n.bits e (ap (λ x. x.bits) (sym (h.1 n (inner c).1)))
told_longer d n Broken m h = λ k c. h n (inner c).1

abbrev Tells : Entry → Making → Type 0
Tells e m = Told e.chain m

tells_change : (c : Change) (e : Entry) (m : Making) → Tells e m → Tells (after c e) (changed c m)
tells_change negation e m h = λ n c. elim c [ ]
tells_change (folding d n) e m h = λ n c. elim c [ ]
tells_change (filtering d n) e m h = told_longer d n e.chain m h
tells_change (selecting d n) e m h = λ n c. elim c [ ]

tells_merge : (g : Merge) (a b : Entry) (m k : Making) → Tells a m → Tells b k → Tells (of_two g a b) (merged g m k)
tells_merge (bounding d) a b m k h l = λ n c. elim c [ ]
tells_merge (averaging d) a b m k h l = λ n c. elim c [ ]

tells_top : {st : List Entry} {ms : List Making} → Pairwise Tells st ms → Tells (top st) (last_making ms)
tells_top nil = λ n. frame
tells_top (cons h p) = h

exactly : (c : Chain) (m : Making) → Told c m → (settles c ≡ true) ↔ ((n : Element) × ChainOf n m)
exactly OfAny m h = (λ _. (record { bits = 0 }, h (record { bits = 0 })), λ _. refl)
exactly (Of k) m h = (λ _. (k, h.0), λ _. refl)
exactly Broken m h = (λ e. absurd (let z : ◌≡◌ {A = ℕ} 0 1 = cc in omega arith), λ x. absurd (h x.0 x.1))

pub settles_law : SettlesLaw
settles_law ranked bytes s e =
    let steps = steps_of bytes in
    let p = run_related Tells on_entries on_makings (λ n. frame) tells_change (λ g a a' b b' h l. tells_merge g a a' b b' h l) steps nil in
    let x = exactly (top (run on_entries steps [])).chain (last_making (run on_makings steps [])) (tells_top p) in
    let is = ap (λ (t : Sheet). t.marks.settles) (sheet_is ranked bytes s e) in
    (λ h. x.0 (sym is ∙ h), λ h. is ∙ x.1 h)
