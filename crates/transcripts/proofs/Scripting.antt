-- A script as its cells follow each other.
use Rattle.std.proofs.Common.{◌≡◌, ℕ, ◌+◌, ◌-◌, ◌<◌, ◌≤◌, Bool, true, false, leb, ◌⊎◌, List, [], ◌∷◌, ◌++◌, map, length, drop, IfSome, Some, None, Ok, Err, codes, MatchBool, Option, Result, sym, refl, ap, ◌∙◌, subst, inl, inr, ⊎_elim, append_assoc, arith}
use Rattle.std.proofs.lemmas.List.{append-nil, drop-drop, length-drop, length-map}
use Rattle.cell.specs.Histories.{History}
use Rattle.commands.specs.declared.command.Making.{Making}
use Rattle.commands.specs.Commands.{Asked, nothing, note, cell, put}
use Rattle.spelling.specs.Words.{Cut, at_white_space}
use Rattle.transcripts.specs.declared.line.Start.{Start}
use Rattle.transcripts.specs.declared.reply.Trouble.{Trouble}
use Rattle.transcripts.specs.Replies.{most}
use Rattle.transcripts.specs.Scripts.{Goes, GoesOrMisses, Makes, Prints, Script, ServedAs, StaysIn, ToldOf, World, criterion_of, kind_of, meaning_of, none, one, shown_of, SpellsOf}
use Rattle.transcripts.specs.Transcripts.{AsksNoCell, Bare, ByCell, Celled, Headed, LineRead, Lines, Missed, Onward, Served, asked_setting}
use Rattle.transcripts.proofs.Lining.{by_other}
use Rattle.commands.specs.declared.command.KindName.{KindName}
use Rattle.transcripts.specs.declared.reply.Trouble.TheVariants.{TooLong}
use Rattle.transcripts.specs.Texts.{unserved_text}

-- the line that asks for the next cell stands behind those served, and is there
abbrev pub StandsAfter : ℕ → ℕ → Option Start → Type 0
StandsAfter n end next = IfSome next (λ start. (n ≤ start.line) × (start.line < end))

-- what is told from a line that asks for a cell on; `after n` are the lines after the line of that number
pub record FromStart (cut : Cut) (Misses : ℕ → List ℕ → Type 0) (after : ℕ → List (List ℕ)) (start : Start) (text : List ℕ) : Type 0 where
  pub world : World
  pub first : List ℕ
  pub rest : List ℕ
  pub makes : Makes start.line start.making world first ⊎ ((world ≡ none) × Misses start.line first)
  pub others : Script cut (GoesOrMisses Misses) world (start.line + 1) (after start.line) rest
  pub all : text ≡ first ++ rest

-- what is still told
abbrev pub GoesOn : Cut → (ℕ → List ℕ → Type 0) → (ℕ → List (List ℕ)) → Option Start → List ℕ → Type 0
GoesOn cut Misses after None text = text ≡ []
GoesOn cut Misses after (Some start) text = FromStart cut Misses after start text

-- the two ways that a line can go
split : (r : Result Asked Trouble) (new : Making → Type 0) (other : Type 0) → ByCell r new other → ((making : Making) × (r ≡ Ok (cell making)) × new making) ⊎ (other × AsksNoCell r)
split (Ok (cell making)) new other p = inl (making, refl, p)
split (Ok nothing) new other p = inr (p, tt)
split (Ok (note text)) new other p = inr (p, tt)
split (Ok (put x)) new other p = inr (p, tt)
split (Err trouble) new other p = inr (p, tt)

module _ (cut : Cut) {State : Type 0} (Serves : State → ℕ → Result Asked Trouble → State → List ℕ → Type 0) where
  stop_later : (n : ℕ) (rest : List (List ℕ)) (next : Option Start) (making : Making) → next ≡ Some (record { line = n; making = making }) → StandsAfter n (n + (1 + length rest)) next
  stop_later n rest next making e = subst (StandsAfter n (n + (1 + length rest))) (sym e) (omega arith, omega arith)

  wider : (n m : ℕ) (next : Option Start) → StandsAfter (n + 1) (n + 1 + m) next → StandsAfter n (n + (1 + m)) next
  wider n m None h = tt
  wider n m (Some start) h = (omega (arith, h.0), omega (arith, h.1))

  pub lines_later : (lines : List (List ℕ)) (state : State) (n : ℕ) (t : List ℕ) (next : Option Start) → Lines cut Serves state n lines t next → StandsAfter n (n + length lines) next
  lines_later [] state n t next (a, b) = subst (StandsAfter n (n + 0)) (sym b) tt
  lines_later (line ∷ rest) state n t next (r, read, by) =
      let one_more : n + (1 + length rest) ≡ n + length (line ∷ rest) = omega arith in
      subst (λ k. StandsAfter n k next) one_more
      (⊎_elim (λ c. stop_later n rest next c.0 c.2.1)
      (λ o. wider n (length rest) next (lines_later rest o.0.after (n + 1) o.0.rest next o.0.others)) (split r _ _ by))

  module _ (Misses : ℕ → List ℕ → Type 0) (world : State → World) (fits : (before : State) (n : ℕ) (r : Result Asked Trouble) (after : State) (t : List ℕ) → Serves before n r after t → StaysIn (world before) n r (world after) t ⊎ ((world after ≡ world before) × Misses n t)) (after : ℕ → List (List ℕ)) (tail : (k : ℕ) (line : List ℕ) (rest : List (List ℕ)) → line ∷ rest ≡ after k → rest ≡ after (k + 1)) where
    stopped : (k : ℕ) (w : World) (rest : List (List ℕ)) (t u : List ℕ) (next : Option Start) (making : Making) → rest ≡ after (k + 1) → t ≡ [] → next ≡ Some (record { line = k + 1; making = making }) → GoesOn cut Misses after next u → Onward (GoesOrMisses Misses) (λ v s. Script cut (GoesOrMisses Misses) v (k + 1 + 1) rest s) w (k + 1) (Ok (cell making)) (t ++ u)
    stopped k w rest t u next making e empty is on =
        let f = subst (λ x. GoesOn cut Misses after x u) is on in
        record {
          after = f.world;
          first = f.first;
          rest = f.rest;
          serves = f.makes;
          others = subst (λ ls. Script cut (GoesOrMisses Misses) f.world (k + 1 + 1) ls f.rest) (sym e) f.others;
          all = ap (λ s. s ++ u) empty ∙ f.all;
        }

    -- lines served up to the next cell, and what is printed from there on, are a script
    pub script_lines : (lines : List (List ℕ)) (k : ℕ) (state : State) (t u : List ℕ) (next : Option Start) → lines ≡ after k → Lines cut Serves state (k + 1) lines t next → GoesOn cut Misses after next u → Script cut (GoesOrMisses Misses) (world state) (k + 1) lines (t ++ u)
    script_lines [] k state t u next e (empty, is) on =
        let last : u ≡ [] = subst (λ x. GoesOn cut Misses after x u) is on in
        ap (λ s. s ++ u) empty ∙ last
    script_lines (line ∷ rest) k state t u next e (r, read, by) on =
        ⊎_elim (λ c. (Ok (cell c.0), subst (LineRead cut line) c.1 read, stopped k (world state) rest t u next c.0 (tail k line rest e) c.2.0 c.2.1 on))
        (λ o. (
          r,
          read,
          record {
            after = world o.0.after;
            first = o.0.first;
            rest = o.0.rest ++ u;
            serves =
                ⊎_elim (λ p. inl (by_other r _ _ o.1 p)) (λ q. inr (by_other r (λ making. world o.0.after ≡ none) (world o.0.after ≡ world state) o.1 q.0, q.1))
                (fits state (k + 1) r o.0.after o.0.first o.0.serves);
            others = script_lines rest (k + 1) o.0.after o.0.rest u next (tail k line rest e) o.0.others on;
            all = ap (λ s. s ++ u) o.0.all ∙ append_assoc o.0.first o.0.rest u;
          },
        )) (split r _ _ by)

-- the lines after the line of a number
abbrev pub lines_after : {X : Type 0} → (X → List ℕ) → List X → ℕ → List (List ℕ)
lines_after f xs n = map f (drop n xs)

module _ (cut : Cut) (Misses : ℕ → List ℕ → Type 0) {X : Type 0} (f : X → List ℕ) (xs : List X) where
  abbrev after_line : ℕ → List (List ℕ)
  after_line = lines_after f xs

  past_first : (ys zs : List X) (line : List ℕ) (rest : List (List ℕ)) → zs ≡ drop 1 ys → line ∷ rest ≡ map f ys → rest ≡ map f zs
  past_first [] zs line rest e is = let z : ◌≡◌ {A = ℕ} 0 1 = cc in absurd (omega arith)
  past_first (y ∷ ys) zs line rest e is = let same : rest ≡ map f ys = cc in same ∙ ap (map f) (sym e)

  drops : (ys : List X) (k : ℕ) → drop (k + 1) ys ≡ drop 1 (drop k ys)
  drops ys k = sym (drop-drop 1 k ys)

  tail_after : (k : ℕ) (line : List ℕ) (rest : List (List ℕ)) → line ∷ rest ≡ after_line k → rest ≡ after_line (k + 1)
  tail_after k line rest is = past_first (drop k xs) (drop (k + 1) xs) line rest (drops xs k) is

  abbrev bare : Unit {0} → ℕ → Result Asked Trouble → Unit {0} → List ℕ → Type 0
  bare = Served Misses Bare

  bare_fits : (before : Unit {0}) (n : ℕ) (r : Result Asked Trouble) (after : Unit {0}) (t : List ℕ) → bare before n r after t → StaysIn none n r none t ⊎ ((none ≡ none) × Misses n t)
  bare_fits before n r after t p = ⊎_elim (λ q. inl (refl, q)) (λ q. inr (refl, q.1)) p

  -- the lines before the first cell
  pub begins : (t u : List ℕ) (next : Option Start) → Lines cut bare tt 1 (after_line 0) t next → GoesOn cut Misses after_line next u → Script cut (GoesOrMisses Misses) none 1 (after_line 0) (t ++ u)
  begins t u next served on = script_lines cut bare Misses (λ _. none) bare_fits after_line tail_after (after_line 0) 0 tt t u next refl served on

  module _ (start : Start) (t u : List ℕ) (next : Option Start) (on : GoesOn cut Misses after_line next u) where
    abbrev here : KindName
    here = start.making.kind

    abbrev celled : History (kind_of here).Level → ℕ → Result Asked Trouble → History (kind_of here).Level → List ℕ → Type 0
    celled = Served Misses (Celled (kind_of here) (meaning_of here) (criterion_of start.making.rule) (SpellsOf here) (shown_of here) (asked_setting start.making))

    abbrev world_of : History (kind_of here).Level → World
    world_of past = one here start.making.rule (asked_setting start.making) past

    celled_fits : (before : History (kind_of here).Level) (n : ℕ) (r : Result Asked Trouble) (after : History (kind_of here).Level) (s : List ℕ) → celled before n r after s → StaysIn (world_of before) n r (world_of after) s ⊎ ((world_of after ≡ world_of before) × Misses n s)
    celled_fits before n r after s p = ⊎_elim (λ q. inl (after, refl, q)) (λ q. inr (ap world_of q.0, q.1)) p

    by_missed : Missed cut Misses start (after_line start.line) t next → FromStart cut Misses after_line start (t ++ u)
    by_missed h = record {
      world = none;
      first = h.head;
      rest = h.others.rest ++ u;
      makes = inr (refl, h.misses);
      others = script_lines cut bare Misses (λ _. none) bare_fits after_line tail_after (after_line start.line) start.line tt h.others.rest u next refl h.others.lines on;
      all = ap (λ s. s ++ u) h.others.all ∙ append_assoc h.head h.others.rest u;
    }

    by_session : (few : Bool) → leb start.making.levels most ≡ few → MatchBool few (Headed (Lines cut celled [] (start.line + 1) (after_line start.line)) (codes "made\n") t next) (Headed (Lines cut bare tt (start.line + 1) (after_line start.line)) (unserved_text start.line TooLong) t next) → FromStart cut Misses after_line start (t ++ u)
    by_session true e h = record {
      world = one here start.making.rule (asked_setting start.making) [];
      first = codes "made\n";
      rest = h.rest ++ u;
      makes = inl (subst (λ b. MatchBool b ((one here start.making.rule (asked_setting start.making) [] ≡ one here start.making.rule (asked_setting start.making) []) × (codes "made\n" ≡ codes "made\n")) ((one here start.making.rule (asked_setting start.making) [] ≡ none) × (codes "made\n" ≡ unserved_text start.line TooLong))) (sym e) (refl, refl));
      others = script_lines cut celled Misses world_of celled_fits after_line tail_after (after_line start.line) start.line [] h.rest u next refl h.lines on;
      all = ap (λ s. s ++ u) h.all ∙ append_assoc (codes "made\n") h.rest u;
    }
    by_session false e h = record {
      world = none;
      first = unserved_text start.line TooLong;
      rest = h.rest ++ u;
      makes = inl (subst (λ b. MatchBool b ((none ≡ one here start.making.rule (asked_setting start.making) []) × (unserved_text start.line TooLong ≡ codes "made\n")) ((none ≡ none) × (unserved_text start.line TooLong ≡ unserved_text start.line TooLong))) (sym e) (refl, refl));
      others = script_lines cut bare Misses (λ _. none) bare_fits after_line tail_after (after_line start.line) start.line tt h.rest u next refl h.lines on;
      all = ap (λ s. s ++ u) h.all ∙ append_assoc (unserved_text start.line TooLong) h.rest u;
    }

    -- the lines of a cell, and what is printed from the next one on
    pub continues : ServedAs cut Misses here (criterion_of start.making.rule) start (after_line start.line) t next → FromStart cut Misses after_line start (t ++ u)
    continues session = ⊎_elim by_missed (by_session (leb start.making.levels most) refl) session

  -- the next cell's line stands behind this one's
  later_by : (start : Start) (t : List ℕ) (next : Option Start) (few : Bool) → MatchBool few (Headed (Lines cut (Served Misses (Celled (kind_of start.making.kind) (meaning_of start.making.kind) (criterion_of start.making.rule) (SpellsOf start.making.kind) (shown_of start.making.kind) (asked_setting start.making))) [] (start.line + 1) (after_line start.line)) (codes "made\n") t next) (Headed (Lines cut bare tt (start.line + 1) (after_line start.line)) (unserved_text start.line TooLong) t next) → StandsAfter (start.line + 1) (start.line + 1 + length (after_line start.line)) next
  later_by start t next true h = lines_later cut _ (after_line start.line) [] (start.line + 1) h.rest next h.lines
  later_by start t next false h = lines_later cut bare (after_line start.line) tt (start.line + 1) h.rest next h.lines

  pub session_later : (start : Start) (t : List ℕ) (next : Option Start) → ServedAs cut Misses start.making.kind (criterion_of start.making.rule) start (after_line start.line) t next → StandsAfter (start.line + 1) (start.line + 1 + length (after_line start.line)) next
  session_later start t next session =
      ⊎_elim (λ h. lines_later cut bare (after_line start.line) tt (start.line + 1) h.others.rest next h.others.lines) (later_by start t next (leb start.making.levels most)) session

-- how many lines are left
abbrev pub left_from : ℕ → Option Start → ℕ
left_from count None = 0
left_from count (Some start) = count + 1 - start.line

pub record Printing (cut : Cut) (Misses : ℕ → List ℕ → Type 0) {X : Type 0} (f : X → List ℕ) (xs : List X) (text : List ℕ) (next : Option Start) : Type 0 where
  pub there : StandsAfter 1 (length xs + 1) next
  pub goes_on : (u : List ℕ) → GoesOn cut Misses (lines_after f xs) next u → Script cut (GoesOrMisses Misses) none 1 (lines_after f xs 0) (text ++ u)

module _ (cut : Cut) (Misses : ℕ → List ℕ → Type 0) {X : Type 0} (f : X → List ℕ) (xs : List X) where
  few_left : (n : ℕ) → length (lines_after f xs n) ≡ length xs - n
  few_left n = length-map (drop n xs) f ∙ length-drop n xs

  weaker : (n end m last : ℕ) (next : Option Start) → m ≤ n → end ≤ last → StandsAfter n end next → StandsAfter m last next
  weaker n end m last None low high h = tt
  weaker n end m last (Some start) low high h = (omega (arith, h.0), omega (arith, h.1))

  pub printing_starts : (t : List ℕ) (next : Option Start) → Lines cut (Served Misses Bare) tt 1 (lines_after f xs 0) t next → Printing cut Misses f xs t next
  printing_starts t next served = record {
    there = weaker 1 (1 + length (lines_after f xs 0)) 1 (length xs + 1) next (omega arith) (omega (arith, few_left 0)) (lines_later cut (Served Misses Bare) (lines_after f xs 0) tt 1 t next served);
    goes_on = λ u on. begins cut Misses f xs t u next served on;
  }

  module _ (text t : List ℕ) (start : Start) (next : Option Start) (so : Printing cut Misses f xs text (Some start)) (session : ServedAs cut Misses start.making.kind (criterion_of start.making.rule) start (lines_after f xs start.line) t next) where
    later : StandsAfter (start.line + 1) (length xs + 1) next
    later =
        weaker (start.line + 1) (start.line + 1 + length (lines_after f xs start.line)) (start.line + 1) (length xs + 1) next (omega arith) (omega (arith, few_left start.line, so.there.1)) (session_later cut Misses f xs start t next session)

    pub printing_more : Printing cut Misses f xs (text ++ t) next
    printing_more = record {
      there = weaker (start.line + 1) (length xs + 1) 1 (length xs + 1) next (omega arith) (omega arith) later;
      goes_on = λ u on. subst (Script cut (GoesOrMisses Misses) none 1 (lines_after f xs 0)) (sym (append_assoc text t u)) (so.goes_on (t ++ u) (continues cut Misses f xs start t u next on session));
    }

    fewer : (n : Option Start) → StandsAfter (start.line + 1) (length xs + 1) n → left_from (length xs) n < left_from (length xs) (Some start)
    fewer None h = omega (arith, so.there.1)
    fewer (Some then) h = omega (arith, so.there.1, h.0, h.1)

    pub printing_fewer : left_from (length xs) next < left_from (length xs) (Some start)
    printing_fewer = fewer next later

  pub printing_ends : (text : List ℕ) → Printing cut Misses f xs text None → ToldOf cut Misses (map f xs) text
  printing_ends text so = subst (Script cut (GoesOrMisses Misses) none 1 (map f xs)) (append-nil text) (so.goes_on [] refl)

-- what a script does, step by step, carried on to what is said of each step in other words
pub script_map : (cut : Cut) (A B : World → ℕ → Result Asked Trouble → World → List ℕ → Type 0) → ((before : World) (n : ℕ) (r : Result Asked Trouble) (after : World) (text : List ℕ) → A before n r after text → B before n r after text) → (lines : List (List ℕ)) (w : World) (n : ℕ) (text : List ℕ) → Script cut A w n lines text → Script cut B w n lines text
script_map cut A B f [] w n text p = p
script_map cut A B f (line ∷ rest) w n text (r, read, o) = (
  r,
  read,
  record {
    after = o.after;
    first = o.first;
    rest = o.rest;
    serves = f w n r o.after o.first o.serves;
    others = script_map cut A B f rest o.after (n + 1) o.rest o.others;
    all = o.all;
  },
)

-- where nothing is told in place of a line, all of the script is told
pub all_told : (lines : List (List ℕ)) (text : List ℕ) → ToldOf at_white_space (λ _ _. ⊥) lines text → Prints lines text
all_told lines text p = script_map at_white_space (GoesOrMisses (λ _ _. ⊥)) Goes (λ before n r after t. ⊎_elim (λ q. q) (λ q. absurd q.1)) lines none 1 text p
