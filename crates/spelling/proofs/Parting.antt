-- Words as they are found step by step.
use Rattle.std.proofs.Common.{◌≡◌, ℕ, zero, suc, ◌+◌, ◌-◌, ◌<◌, ◌≤◌, true, false, cond, List, [], ◌∷◌, length, get_or, take, drop, Some, None, Option, MatchOption, sym, refl, ap, ◌∙◌, subst, arith, length-take}
use Rattle.std.proofs.lemmas.Bool.Decides.{nat_tests}
use Rattle.std.specs.Char.{is_ascii_whitespace}
use Rattle.std.specs.List.{AllWithin, HoldsAt}
use Rattle.std.specs.Option.{unwrap_or}
use Rattle.spelling.specs.Words.{unpadded, closing, unended, trimmed, front, behind, WordEnds}

-- white space is ASCII
pub small : (c : ℕ) → is_ascii_whitespace c ≡ true → 128 ≤ c → ⊥
small c white wide = grind (arith, nat_tests)

-- white space at each of the first places, and none at the next
pub unpadded_at : (m : ℕ) (t : List ℕ) → ((i : ℕ) → i < m → is_ascii_whitespace (get_or t i 0) ≡ true) → (m < length t → is_ascii_whitespace (get_or t m 0) ≡ false) → drop m t ≡ unpadded t
unpadded_at zero [] before here = refl
unpadded_at (suc m) [] before here = refl
unpadded_at zero (b ∷ bs) before here = sym (ap (λ w. cond w (unpadded bs) (b ∷ bs)) (here (omega arith)))
unpadded_at (suc m) (b ∷ bs) before here =
    unpadded_at m bs (λ i l. before (suc i) (omega arith)) (λ l. here (omega arith))
    ∙ sym (ap (λ w. cond w (unpadded bs) (b ∷ bs)) (before 0 (omega arith)))

-- white space from a place on, and none right before it
pub unended_at : (n : ℕ) (t : List ℕ) → n ≤ length t → ((i : ℕ) → n ≤ i → i < length t → is_ascii_whitespace (get_or t i 0) ≡ true) → ((k : ℕ) → n ≡ suc k → is_ascii_whitespace (get_or t k 0) ≡ false) → take n t ≡ unended t
unended_at zero [] within after last = refl
unended_at (suc n) [] within after last = refl
unended_at zero (b ∷ bs) within after last =
    sym
    (ap (closing b) (sym (unended_at zero bs (omega arith) (λ i h l. after (suc i) (omega arith) (omega arith)) (λ k e. absurd (omega arith))))
    ∙ ap (λ w. cond w [] (b ∷ [])) (after 0 (omega arith) (omega arith)))
unended_at (suc zero) (b ∷ bs) within after last =
    sym
    (ap (closing b) (sym (unended_at zero bs (omega arith) (λ i h l. after (suc i) (omega arith) (omega arith)) (λ k e. absurd (omega arith))))
    ∙ ap (λ w. cond w [] (b ∷ [])) (last 0 refl))
unended_at (suc (suc n)) (b ∷ []) within after last = absurd (omega arith)
unended_at (suc (suc n)) (b ∷ c ∷ cs) within after last =
    sym
    (ap (closing b) (sym (unended_at (suc n) (c ∷ cs) (omega arith) (λ i h l. after (suc i) (omega arith) (omega arith)) (λ k e. last (suc k) (ap suc e)))))

-- no white space before a place, and white space there
pub front_at : (n : ℕ) (t : List ℕ) → n ≤ length t → ((i : ℕ) → i < n → is_ascii_whitespace (get_or t i 0) ≡ false) → (n < length t → is_ascii_whitespace (get_or t n 0) ≡ true) → take n t ≡ front t
front_at zero [] within before here = refl
front_at (suc n) [] within before here = refl
front_at zero (b ∷ bs) within before here = sym (ap (λ w. cond w [] (b ∷ front bs)) (here (omega arith)))
front_at (suc n) (b ∷ bs) within before here =
    ap (λ r. b ∷ r) (front_at n bs (omega arith) (λ i l. before (suc i) (omega arith)) (λ l. here (omega arith)))
    ∙ sym (ap (λ w. cond w [] (b ∷ front bs)) (before 0 (omega arith)))

pub behind_at : (n : ℕ) (t : List ℕ) → n ≤ length t → ((i : ℕ) → i < n → is_ascii_whitespace (get_or t i 0) ≡ false) → (n < length t → is_ascii_whitespace (get_or t n 0) ≡ true) → drop n t ≡ behind t
behind_at zero [] within before here = refl
behind_at (suc n) [] within before here = refl
behind_at zero (b ∷ bs) within before here = sym (ap (λ w. cond w (b ∷ bs) (behind bs)) (here (omega arith)))
behind_at (suc n) (b ∷ bs) within before here =
    behind_at n bs (omega arith) (λ i l. before (suc i) (omega arith)) (λ l. here (omega arith))
    ∙ sym (ap (λ w. cond w (b ∷ bs) (behind bs)) (before 0 (omega arith)))

-- the first word ends where white space begins, or the text
pub word_ends : (n : ℕ) (t : List ℕ) → n ≤ length t → ((i : ℕ) → i < n → is_ascii_whitespace (get_or t i 0) ≡ false) → (n < length t → is_ascii_whitespace (get_or t n 0) ≡ true) → WordEnds t n
word_ends n t within before here = record {
  word = front_at n t within before here;
  rest = behind_at n t within before here;
  boundary = (within, λ l wide. absurd (small _ (here l) wide));
}

-- the first white space is where the first word ends, or else the end of the text
pub word_found : (t : List ℕ) (r : Option ℕ) → MatchOption r (AllWithin (λ b. is_ascii_whitespace b ≡ false) t 0 (length t)) (λ i. (i < length t) × HoldsAt (λ b. is_ascii_whitespace b ≡ true) t i × AllWithin (λ b. is_ascii_whitespace b ≡ false) t 0 i) → WordEnds t (unwrap_or r (length t))
word_found t None none = word_ends (length t) t (omega arith) (λ k l. none k 0 (omega arith) l) (λ l. absurd (omega arith))
word_found t (Some i) (inside, here, before) = word_ends i t (omega arith) (λ k l. before k 0 (omega arith) l) (λ l. here 0)

-- what `trim_ascii_start` gives
pub unpadded_from : (t r : List ℕ) → ((n : ℕ) × (r ≡ drop n t) × (length r + n ≡ length t) × ((i : ℕ) → i < n → is_ascii_whitespace (get_or t i 0) ≡ true) × (n < length t → is_ascii_whitespace (get_or t n 0) ≡ false)) → r ≡ unpadded t
unpadded_from t r (n, is, long, before, here) = is ∙ unpadded_at n t before here

-- what `trim_ascii` gives
pub trimmed_at : (t r : List ℕ) → ((m : ℕ) × (r ≡ take (length r) (drop m t)) × ((i : ℕ) → i < m → is_ascii_whitespace (get_or t i 0) ≡ true) × (m < length t → is_ascii_whitespace (get_or t m 0) ≡ false) × ((i : ℕ) → length r ≤ i → i < length (drop m t) → is_ascii_whitespace (get_or (drop m t) i 0) ≡ true) × (0 < length r → is_ascii_whitespace (get_or (drop m t) (length r - 1) 0) ≡ false)) → r ≡ trimmed t
trimmed_at t r (m, is, before, here, after, last) =
    is ∙ unended_at (length r) (drop m t) (omega (arith, ap length is, length-take (length r) (drop m t))) after (λ k e. subst (λ n. is_ascii_whitespace (get_or (drop m t) n 0) ≡ false) (omega arith) (last (omega arith))) ∙ ap unended (unpadded_at m t before here)
