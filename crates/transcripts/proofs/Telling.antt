-- What is told of lines, put together.
use Rattle.std.proofs.Common.{◌≡◌, ℕ, ◌+◌, cond, List, [], ◌∷◌, ◌++◌, IfOk, OnOk, Ok, Err, Option, Result, sym, refl, ap, ◌∙◌, inl, inr, subst, arith, append_assoc}
use Rattle.std.proofs.lemmas.Bool.{ne_eqb}
use Rattle.spelling.proofs.Spelled.{turn}
use Rattle.std.specs.declared.alloc.AllocError.{AllocError}
use Rattle.level.specs.Kind.{Kind}
use Rattle.rule.specs.Criterion.{Criterion}
use Rattle.cell.specs.Histories.{History, Setting}
use Rattle.commands.specs.Commands.{Asked, Put, nothing, note, cell, put}
use Rattle.desk.specs.declared.desk.Desk.{Desk}
use Rattle.desk.specs.Desks.{After, Tidy}
use Rattle.transcripts.specs.declared.line.Start.{Start}
use Rattle.transcripts.specs.declared.reply.Reply.{Reply}
use Rattle.transcripts.specs.declared.reply.Trouble.{Trouble}
use Rattle.transcripts.specs.declared.reply.Trouble.TheVariants.{Unread, NotText, NoBytes, NoLevels, TooLong, NoMemory, NoCell}
use Rattle.transcripts.specs.Replies.{Replied, Replies}
use Rattle.transcripts.specs.Serving.{LineServed, TroubleTold}
use Rattle.transcripts.specs.Texts.{reply_text, unserved_text}
use Rattle.transcripts.specs.Transcripts.{Bare, Headed}

module _ (K : Kind) {S P R : Type 0} (m : P → K.Level) (C : Criterion) where
  -- a call is answered, whatever history is behind the desk
  abbrev grows : (List ℕ → P → Type 0) → Desk S P R → Desk S P R → Put → Result (Reply P) Trouble → Type 0
  grows spells before after p answer = (s : Setting) (h : History K.Level) → After K m C before s h → (h' : History K.Level) × Replies K m C spells s h p h' answer × After K m C after s h'

  -- whatever is answered, the desk stays tidy
  module _ (spells : List ℕ → P → Type 0) (before after : Desk S P R) (p : Put) (k : Tidy K m C before) where
    tidy_grown : (answer : Result (Reply P) Trouble) → grows spells before after p answer → Tidy K m C after
    tidy_grown answer q = let f = q k.made k.past k.after in record { made = k.made; past = f.0; after = f.2 }

    pub tidy_after : (answer : Result (Reply P) Trouble) → Replied K m C spells before after p answer → Tidy K m C after
    tidy_after (Ok reply) q = tidy_grown (Ok reply) q
    tidy_after (Err (Unread fault)) q = tidy_grown (Err (Unread fault)) q
    tidy_after (Err NotText) q = tidy_grown (Err NotText) q
    tidy_after (Err NoBytes) q = tidy_grown (Err NoBytes) q
    tidy_after (Err NoLevels) q = tidy_grown (Err NoLevels) q
    tidy_after (Err TooLong) q = tidy_grown (Err TooLong) q
    tidy_after (Err (NoMemory want)) q = subst (Tidy K m C) (sym q) k
    tidy_after (Err NoCell) q = tidy_grown (Err NoCell) q

  -- what is told of a line whose call is in trouble, or that there is no memory for
  pub troubled_line : (spells : List ℕ → P → Type 0) (shown : P → List ℕ) (width : ℕ) (Misses : ℕ → List ℕ → Type 0) (before after : Desk S P R) (n : ℕ) (p : Put) (trouble : Trouble) (text : List ℕ)
      → Replied K m C spells before after p (Err trouble) → TroubleTold Misses n trouble text → LineServed K m C spells shown width Misses before after n (Ok (put p)) text
  troubled_line spells shown width Misses before after n p (Unread fault) text replied told = λ s h w b. let f = replied s h b in (f.0, inl (Err (Unread fault), f.1, told), f.2)
  troubled_line spells shown width Misses before after n p NotText text replied told = λ s h w b. let f = replied s h b in (f.0, inl (Err NotText, f.1, told), f.2)
  troubled_line spells shown width Misses before after n p NoBytes text replied told = λ s h w b. let f = replied s h b in (f.0, inl (Err NoBytes, f.1, told), f.2)
  troubled_line spells shown width Misses before after n p NoLevels text replied told = λ s h w b. let f = replied s h b in (f.0, inl (Err NoLevels, f.1, told), f.2)
  troubled_line spells shown width Misses before after n p TooLong text replied told = λ s h w b. let f = replied s h b in (f.0, inl (Err TooLong, f.1, told), f.2)
  troubled_line spells shown width Misses before after n p (NoMemory want) text same miss = λ s h w b. (h, inr (refl, miss), subst (λ d. After K m C d s h) (sym same) b)
  troubled_line spells shown width Misses before after n p NoCell text replied told = λ s h w b. let f = replied s h b in (f.0, inl (Err NoCell, f.1, told), f.2)

  -- a line whose call the cell replies to
  pub replied_line : (spells : List ℕ → P → Type 0) (shown : P → List ℕ) (width : ℕ) (Misses : ℕ → List ℕ → Type 0) (before after : Desk S P R) (n : ℕ) (p : Put) (reply : Reply P)
      → Replied K m C spells before after p (Ok reply) → LineServed K m C spells shown width Misses before after n (Ok (put p)) (reply_text shown width reply)
  replied_line spells shown width Misses before after n p reply replied s h w b =
      let f = replied s h b in
      (f.0, inl (Ok reply, f.1, ap (λ v. reply_text shown v reply) (sym w)), f.2)

  -- a line that puts no call is answered by a desk as without a cell
  pub bare_served : (spells : List ℕ → P → Type 0) (shown : P → List ℕ) (width : ℕ) (Misses : ℕ → List ℕ → Type 0) (desk : Desk S P R) (n : ℕ) (r : Result Asked Trouble) (text : List ℕ)
      → ((p : Put) → r ≡ Ok (put p) → ⊥) → Bare tt n r tt text → LineServed K m C spells shown width Misses desk desk n r text
  bare_served spells shown width Misses desk n (Err trouble) text none bare = λ s h w b. (h, inl (refl, bare), b)
  bare_served spells shown width Misses desk n (Ok nothing) text none bare = λ s h w b. (h, inl (refl, bare), b)
  bare_served spells shown width Misses desk n (Ok (note u)) text none bare = λ s h w b. (h, inl (refl, bare), b)
  bare_served spells shown width Misses desk n (Ok (cell making)) text none bare = λ s h w b. (h, inl (refl, bare), b)
  bare_served spells shown width Misses desk n (Ok (put p)) text none bare = absurd (none p refl)

-- why a line is not served is told, where that is not for want of memory
pub trouble_told : (Misses : ℕ → List ℕ → Type 0) (n : ℕ) (trouble : Trouble) (text : List ℕ) → ((want : AllocError) → trouble ≡ NoMemory want → ⊥) → text ≡ unserved_text n trouble → TroubleTold Misses n trouble text
trouble_told Misses n (Unread fault) text some e = e
trouble_told Misses n NotText text some e = e
trouble_told Misses n NoBytes text some e = e
trouble_told Misses n NoLevels text some e = e
trouble_told Misses n TooLong text some e = e
trouble_told Misses n (NoMemory want) text some e = absurd (some want refl)
trouble_told Misses n NoCell text some e = e

-- more is known of what is told
pub told_map : {A E P Q : Type 0} (r : Result A E) → (P → Q) → OnOk r P → OnOk r Q
told_map (Ok a) f p = f p
told_map (Err e) f p = tt

-- a row told with the end of its line, after the rows that are shown
pub row_told : (shown row line : List ℕ) (n : ℕ) → line ≡ row → (shown ++ turn n) ++ (line ++ 10 ∷ []) ≡ ((shown ++ turn n) ++ row) ++ turn (n + 1)
row_told shown row line n e =
    let next : turn (n + 1) ≡ 10 ∷ [] = ap (λ b. cond b [] (10 ∷ [])) (ne_eqb (n + 1) 0 (λ z. omega (arith, z))) in
    ap (λ l. (shown ++ turn n) ++ (l ++ 10 ∷ [])) e ∙ (sym (append_assoc (shown ++ turn n) row (10 ∷ [])) ∙ ap (λ r. ((shown ++ turn n) ++ row) ++ r) (sym next))

-- a text told in front of what is told of lines
pub after_head : {T E : Type 0} (tells : T → T → List ℕ → Type 0) (joins : (x y z : T) (first second : List ℕ) → tells x y first → tells y z second → tells x z (first ++ second)) (x y z : T) (head : List ℕ) (served : List ℕ → Option Start → Type 0) (r : Result (Option Start) E)
    → tells x y head → IfOk r (λ next. (text : List ℕ) × tells y z text × served text next) → IfOk r (λ next. (text : List ℕ) × tells x z text × Headed served head text next)
after_head tells joins x y z head served (Ok next) a (text, b, p) = (head ++ text, joins x y z head text a b, record { rest = text; lines = p; all = refl })
after_head tells joins x y z head served (Err e) a p = tt
