-- Lines as they are served one by one.
use Rattle.std.proofs.Common.{◌≡◌, ℕ, ◌+◌, ◌-◌, ◌<◌, ◌≤◌, List, [], ◌∷◌, ◌++◌, map, length, get_or, drop, Some, None, Ok, Err, Option, Result, sym, refl, ap, ◌∙◌, subst, arith, append_assoc, ◌⊎◌, ⊎_elim}
use Rattle.std.specs.List.{slice_range}
use Rattle.std.proofs.lemmas.List.{drop_more, drop_all, append-nil, length-drop, get_or-drop, take_all}
use Rattle.commands.specs.declared.command.Making.{Making}
use Rattle.commands.specs.Commands.{Asked, nothing, note, cell, put}
use Rattle.spelling.specs.Words.{Cut}
use Rattle.transcripts.specs.declared.line.Start.{Start}
use Rattle.transcripts.specs.declared.reply.Trouble.{Trouble}
use Rattle.transcripts.specs.Transcripts.{AsksNoCell, ByCell, LineRead, Lines}

-- a line that asks for no cell
pub by_other : (r : Result Asked Trouble) (new : Making → Type 0) (other : Type 0) → AsksNoCell r → other → ByCell r new other
by_other (Ok (cell making)) new other n p = absurd n
by_other (Ok nothing) new other n p = p
by_other (Ok (note text)) new other n p = p
by_other (Ok (put x)) new other n p = p
by_other (Err trouble) new other n p = p

-- the lines from a first one on
pub rest_lines : {X : Type 0} (from : ℕ) (xs rest : List X) → rest ≡ slice_range xs from (length xs) → rest ≡ drop from xs
rest_lines from xs rest e = e ∙ take_all (length xs - from) (drop from xs) (omega (arith, length-drop from xs))

-- there are no lines from a first one on that is past the last
pub no_lines : {X : Type 0} (from : ℕ) (xs : List X) → (length xs < from) ⊎ (length xs < length xs) → length xs ≤ from + 0
no_lines from xs past = ⊎_elim (λ l. omega (arith, l)) (λ l. omega (arith, l)) past

-- a line of those from a first one on is one of all
pub line_there : {X : Type 0} (from i : ℕ) (xs rest : List X) (x : X) → rest ≡ drop from xs → i < length rest → x ≡ get_or rest i x → (from + i < length xs) × (x ≡ get_or xs (from + i) x)
line_there from i xs rest x e l is = (omega (arith, l, ap length e, length-drop from xs), is ∙ ap (λ r. get_or r i x) e ∙ get_or-drop from xs i x)

-- none is left when those from a first one on are done
pub lines_done : {X : Type 0} (from i : ℕ) (xs rest : List X) → rest ≡ drop from xs → length rest ≤ i → length xs ≤ from + i
lines_done from i xs rest e l = omega (arith, l, ap length e, length-drop from xs)

-- the line at an index, and those after it
next_line : {X : Type 0} (f : X → List ℕ) (xs : List X) (i : ℕ) (x : X) → i < length xs → x ≡ get_or xs i x → map f (drop i xs) ≡ f x ∷ map f (drop (i + 1) xs)
next_line f xs i x l e = ap (map f) (drop_more xs i x l) ∙ ap (λ y. f y ∷ map f (drop (i + 1) xs)) (sym e)

module _ (cut : Cut) {State : Type 0} (Serves : State → ℕ → Result Asked Trouble → State → List ℕ → Type 0) {X : Type 0} (f : X → List ℕ) (xs : List X) where
  -- the lines up to an index are served, and the text so far is theirs: whatever the others give comes after it
  pub record SoFar (start : State) (from : ℕ) (state : State) (i : ℕ) (text : List ℕ) : Type 0 where
    pub goes_on : (t : List ℕ) (next : Option Start) → Lines cut Serves state (i + 1) (map f (drop i xs)) t next → Lines cut Serves start (from + 1) (map f (drop from xs)) (text ++ t) next

  pub so_far_none : (start : State) (from : ℕ) (text : List ℕ) → text ≡ [] → SoFar start from start (from + 0) text
  so_far_none start from text e =
      let here : from ≡ from + 0 = omega arith in
      subst (λ i. SoFar start from start i text) here
      (record { goes_on = λ t next p. subst (λ u. Lines cut Serves start (from + 1) (map f (drop from xs)) (u ++ t) next) (sym e) p })

  pub so_far_more : (start : State) (from : ℕ) (state after : State) (i : ℕ) (text more : List ℕ) (x : X) (r : Result Asked Trouble) → i < length xs → x ≡ get_or xs i x → LineRead cut (f x) r → AsksNoCell r → Serves state (i + 1) r after more → SoFar start from state i text → (j : ℕ) → j ≡ i + 1 → SoFar start from after j (text ++ more)
  so_far_more start from state after i text more x r l e read none serves so j next_one = subst (λ j. SoFar start from after j (text ++ more)) (sym next_one) record {
    goes_on = λ t next p.
        subst (λ u. Lines cut Serves start (from + 1) (map f (drop from xs)) u next) (sym (append_assoc text more t))
        (so.goes_on (more ++ t) next
        (subst (λ ls. Lines cut Serves state (i + 1) ls (more ++ t) next) (sym (next_line f xs i x l e))
        (r, read, by_other r _ _ none (record { after = after; first = more; rest = t; serves = serves; others = p; all = refl }))));
  }

  pub so_far_cell : (start : State) (from : ℕ) (state : State) (i : ℕ) (text : List ℕ) (x : X) (making : Making) → i < length xs → x ≡ get_or xs i x → LineRead cut (f x) (Ok (cell making)) → SoFar start from state i text → Lines cut Serves start (from + 1) (map f (drop from xs)) text (Some (record { line = i + 1; making = making }))
  so_far_cell start from state i text x making l e read so =
      subst (λ u. Lines cut Serves start (from + 1) (map f (drop from xs)) u (Some (record { line = i + 1; making = making }))) (append-nil text)
      (so.goes_on [] (Some (record { line = i + 1; making = making }))
      (subst (λ ls. Lines cut Serves state (i + 1) ls [] (Some (record { line = i + 1; making = making }))) (sym (next_line f xs i x l e))
      (Ok (cell making), read, (refl, refl))))

  pub so_far_all : (start : State) (from : ℕ) (state : State) (i : ℕ) (text : List ℕ) → length xs ≤ i → SoFar start from state i text → Lines cut Serves start (from + 1) (map f (drop from xs)) text None
  so_far_all start from state i text l so =
      subst (λ u. Lines cut Serves start (from + 1) (map f (drop from xs)) u None) (append-nil text)
      (so.goes_on [] None (subst (λ ls. Lines cut Serves state (i + 1) (map f ls) [] None) (sym (drop_all i xs l)) (refl, refl)))
