-- Levels as they are read word by word.
use Rattle.std.proofs.Common.{◌≡◌, ℕ, suc, ◌<◌, Bool, true, false, cond, List, [], ◌∷◌, ◌++◌, length, get_or, Some, Bor, sym, refl, ap, ◌∙◌, subst, append_assoc, arith}
use Rattle.std.proofs.lemmas.List.{append-nil}
use Rattle.std.proofs.lemmas.Str.{NoCharPasses-byte}
use Rattle.std.specs.Char.{is_ascii_whitespace}
use Rattle.std.specs.List.{AllPass}
use Rattle.std.specs.Str.Iter.{CutsAsciiWord, IsAsciiSeparator}
use Rattle.spelling.specs.Spellings.{Spell}
use Rattle.spelling.specs.Words.{begun, lengthened, words}
use Rattle.spelling.proofs.Parting.{small}

-- white space in front is no part of a word
words_gap : (gap text : List ℕ) → AllPass is_ascii_whitespace gap → words (gap ++ text) ≡ words text
words_gap [] text white = refl
words_gap (b ∷ bs) text white =
    ap (λ w. cond w (words (bs ++ text)) (begun b (bs ++ text) (words (bs ++ text)))) (white 0 0 (omega arith))
    ∙ words_gap bs text (λ k d l. white (suc k) d (omega arith))

-- a text of white space has no words
pub words_none : (text : List ℕ) → AllPass is_ascii_whitespace text → words text ≡ []
words_none text white = ap words (sym (append-nil text)) ∙ words_gap text [] white

-- a text that is empty or begins with white space
abbrev Apart : List ℕ → Type 0
Apart text = 0 < length text → is_ascii_whitespace (get_or text 0 0) ≡ true

-- a word up to white space or the end of the text
words_word : (word text : List ℕ) → 0 < length word → ((k : ℕ) → k < length word → is_ascii_whitespace (get_or word k 0) ≡ false) → Apart text → words (word ++ text) ≡ word ∷ words text
words_word [] text some dark apart = absurd (omega arith)
words_word (b ∷ []) [] some dark apart = ap (λ w. cond w [] ((b ∷ []) ∷ [])) (dark 0 (omega arith))
words_word (b ∷ []) (c ∷ cs) some dark apart =
    ap (λ w. cond w (words (c ∷ cs)) (begun b (c ∷ cs) (words (c ∷ cs)))) (dark 0 (omega arith))
    ∙ ap (λ w. cond w ((b ∷ []) ∷ words (c ∷ cs)) (lengthened b (words (c ∷ cs)))) (apart (omega arith))
words_word (b ∷ a ∷ cs) text some dark apart =
    ap (λ w. cond w (words (a ∷ (cs ++ text))) (begun b (a ∷ (cs ++ text)) (words (a ∷ (cs ++ text))))) (dark 0 (omega arith))
    ∙ ap (λ w. cond w ((b ∷ []) ∷ words (a ∷ (cs ++ text))) (lengthened b (words (a ∷ (cs ++ text))))) (dark 1 (omega arith))
    ∙ ap (lengthened b) (words_word (a ∷ cs) text (omega arith) (λ k l. dark (suc k) (omega arith)) apart)

dark_by : (b : ℕ) (w : Bool) → is_ascii_whitespace b ≡ w → (b < 128 → is_ascii_whitespace b ≡ false) → is_ascii_whitespace b ≡ false
dark_by b true e low = low (omega (arith, small b e))
dark_by b false e low = e

apart_by : (sep rest : List ℕ) → IsAsciiSeparator sep rest → Apart (sep ++ rest)
apart_by [] rest parts = λ l. absurd (omega (arith, parts.2 refl))
apart_by (c ∷ cs) rest parts = λ l. parts.0 0 0 (omega arith)

-- the word that is cut off the front of a text is its first
pub words_cut : (text : List ℕ) (word : Bor (List ℕ)) (rest : List ℕ) → CutsAsciiWord text (Some word) rest (λ gap x sep. gap ++ (x ++ (sep ++ rest))) → words text ≡ word.now ∷ words rest
words_cut text word rest (some, dark, short, (gap, sep, is, white, parts)) =
    ap words is ∙ words_gap gap (word.now ++ (sep ++ rest)) white
    ∙ words_word word.now (sep ++ rest) some (λ k l. dark_by (get_or word.now k 0) _ refl (NoCharPasses-byte is_ascii_whitespace word.now k dark l)) (apart_by sep rest parts)
    ∙ ap (λ ws. word.now ∷ ws) (words_gap sep rest parts.0)

module _ {L : Type 0} (spells : List ℕ → L → Type 0) where
  spell_more : (passed : List (List ℕ)) (xs : List L) (word : List ℕ) (x : L) → Spell spells passed xs → spells word x → Spell spells (passed ++ word ∷ []) (xs ++ x ∷ [])
  spell_more [] [] word x all s = (s, tt)
  spell_more [] (y ∷ ys) word x all s = absurd all
  spell_more (w ∷ ws) [] word x all s = absurd all
  spell_more (w ∷ ws) (y ∷ ys) word x all s = (all.0, spell_more ws ys word x all.1 s)

  spell_stuck : (passed rest : List (List ℕ)) (word : List ℕ) (ys : List L) → ((x : L) → spells word x → ⊥) → Spell spells (passed ++ word ∷ rest) ys → ⊥
  spell_stuck [] rest word [] none all = all
  spell_stuck [] rest word (y ∷ ys) none all = none y all.0
  spell_stuck (w ∷ ws) rest word [] none all = all
  spell_stuck (w ∷ ws) rest word (y ∷ ys) none all = spell_stuck ws rest word ys none all.1

  -- the words passed so far spell these levels, and the rest of the text has the other words
  pub record Reading (text rest : List ℕ) (xs : List L) : Type 0 where
    pub passed : List (List ℕ)
    pub all : words text ≡ passed ++ words rest
    pub read : Spell spells passed xs

  pub reading_starts : (text rest : List ℕ) (xs : List L) → rest ≡ text → xs ≡ [] → Reading text rest xs
  reading_starts text rest xs same none = record { passed = []; all = ap words (sym same); read = subst (Spell spells []) (sym none) tt }

  module _ (text rest further word : List ℕ) (xs : List L) (first : words rest ≡ word ∷ words further) (so_far : Reading text rest xs) where
    onward : words text ≡ so_far.passed ++ (word ∷ words further)
    onward = so_far.all ∙ ap (λ ws. so_far.passed ++ ws) first

    pub reading_more : (x : L) (ys : List L) → ys ≡ xs ++ x ∷ [] → spells word x → Reading text further ys
    reading_more x ys pushed s = record {
      passed = so_far.passed ++ word ∷ [];
      all = onward ∙ sym (append_assoc so_far.passed (word ∷ []) (words further));
      read = subst (Spell spells _) (sym pushed) (spell_more so_far.passed xs word x so_far.read s);
    }

    pub reading_stuck : ((x : L) → spells word x → ⊥) → (ys : List L) → Spell spells (words text) ys → ⊥
    reading_stuck none ys all =
        spell_stuck so_far.passed (words further) word ys none (subst (λ ws. Spell spells ws ys) onward all)

  pub reading_ends : (text rest : List ℕ) (xs : List L) → words rest ≡ [] → Reading text rest xs → Spell spells (words text) xs
  reading_ends text rest xs none so_far =
      subst (λ ws. Spell spells ws xs) (sym (so_far.all ∙ ap (λ ws. so_far.passed ++ ws) none ∙ append-nil so_far.passed)) so_far.read
