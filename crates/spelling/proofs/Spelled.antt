-- Bytes and rows as they are read and written step by step.
use Rattle.std.proofs.Common.{◌≡◌, ℕ, zero, suc, ◌+◌, ◌*◌, ◌%◌, ◌<◌, ◌≤◌, min, max, cond, eqb, List, [], ◌∷◌, ◌++◌, length, get_or, take, IfOk, Some, None, Ok, Err, Option, Result, sym, refl, ap, ◌∙◌, subst, append_assoc, length-append, arith, Bor, MatchOption, ne_eqb, eq-eqb, add-zero}
use native.Mathlib.Nat.{zero-mul, suc-mul}
use Rattle.std.proofs.lemmas.Nat.{mod-mul-add}
use Rattle.std.proofs.lemmas.List.{take_more, append-nil}
use Rattle.std.proofs.lemmas.Str.Pattern.{IsSplitOnceResult, split_after}
use Rattle.spelling.specs.Spellings.{Flagged, Joined}
use Rattle.spelling.specs.Texts.{hex_value, joined, followed, hex_bytes, gap as gap_at, rows_from, rows_text, spaced, row_text}

-- what a made value has, carried on
pub made_map : {X Y : Type 0} (r : Result X Y) {P Q : X → Type 0} → ((x : X) → P x → Q x) → IfOk r P → IfOk r Q
made_map (Ok x) f p = f x p
made_map (Err y) f p = tt

-- four bytes, one by one
pub four : (xs : List ℕ) → length xs ≡ 4 → xs ≡ get_or xs 0 0 ∷ get_or xs 1 0 ∷ get_or xs 2 0 ∷ get_or xs 3 0 ∷ []
four [] e = absurd (omega arith)
four (a ∷ []) e = absurd (omega arith)
four (a ∷ b ∷ []) e = absurd (omega arith)
four (a ∷ b ∷ c ∷ []) e = absurd (omega arith)
four (a ∷ b ∷ c ∷ d ∷ []) e = refl
four (a ∷ b ∷ c ∷ d ∷ x ∷ xs) e = absurd (omega arith)

-- what stands before, and then what the rest gives
abbrev pub after : List ℕ → Option (List ℕ) → Option (List ℕ)
after xs None = None
after xs (Some ys) = Some (xs ++ ys)

none_last : (o : Option ℕ) → followed o None ≡ None
none_last None = refl
none_last (Some x) = refl

pub odd_none : (xs : List ℕ) → length xs % 2 ≡ 1 → hex_bytes xs ≡ None
odd_none [] e = absurd (omega arith)
odd_none (a ∷ []) e = refl
odd_none (a ∷ b ∷ xs) e =
    ap (followed (joined (hex_value a) (hex_value b))) (odd_none xs (omega arith)) ∙ none_last (joined (hex_value a) (hex_value b))

-- two digits in front of others
two_on : (pair rest : List ℕ) → length pair ≡ 2 → hex_bytes (pair ++ rest) ≡ followed (joined (hex_value (get_or pair 0 0)) (hex_value (get_or pair 1 0))) (hex_bytes rest)
two_on [] rest e = absurd (omega arith)
two_on (a ∷ []) rest e = absurd (omega arith)
two_on (a ∷ b ∷ []) rest e = refl
two_on (a ∷ b ∷ c ∷ cs) rest e = absurd (omega arith)

module _ (whole acc before pair rest : List ℕ) (is : before ≡ pair ++ rest) (l : length pair ≡ 2) (so_far : hex_bytes whole ≡ after acc (hex_bytes before)) where
  abbrev two : Option ℕ
  two = joined (hex_value (get_or pair 0 0)) (hex_value (get_or pair 1 0))

  onward : hex_bytes whole ≡ after acc (followed two (hex_bytes rest))
  onward = so_far ∙ ap (λ t. after acc (hex_bytes t)) is ∙ ap (after acc) (two_on pair rest l)

  pushed : (b : ℕ) (o : Option (List ℕ)) → after acc (followed (Some b) o) ≡ after (acc ++ b ∷ []) o
  pushed b None = refl
  pushed b (Some ys) = ap Some (sym (append_assoc acc (b ∷ []) ys))

  -- a byte more is read
  pub reads_on : (b : ℕ) → Some b ≡ joined (hex_value (get_or pair 0 0)) (hex_value (get_or pair 1 0)) → hex_bytes whole ≡ after (acc ++ b ∷ []) (hex_bytes rest)
  reads_on b e = onward ∙ ap (λ t. after acc (followed t (hex_bytes rest))) (sym e) ∙ pushed b _

module _ {L : Type 0} (t : L → List ℕ) where
  spaced_more : (xs : List L) (y : L) → spaced t (xs ++ y ∷ []) ≡ spaced t xs ++ 32 ∷ t y
  spaced_more [] y = ap (λ s. 32 ∷ s) (append-nil (t y))
  spaced_more (x ∷ xs) y = ap (λ s. 32 ∷ (t x ++ s)) (spaced_more xs y) ∙ ap (λ s. 32 ∷ s) (sym (append_assoc (t x) (spaced t xs) (32 ∷ t y)))

  abbrev gap : ℕ → List ℕ
  gap i = cond (eqb i 0) [] (32 ∷ [])

  after_some : (x : L) (xs : List L) (y : L) → row_text t (x ∷ (xs ++ y ∷ [])) ≡ (row_text t (x ∷ xs) ++ 32 ∷ []) ++ t y
  after_some x xs y =
      ap (λ s. t x ++ s) (spaced_more xs y)
      ∙ (sym (append_assoc (t x) (spaced t xs) (32 ∷ t y)) ∙ sym (append_assoc (t x ++ spaced t xs) (32 ∷ []) (t y)))

  -- a level more is written
  pub row_more : (xs : List L) (i : ℕ) (d : L) → i < length xs → row_text t (take (i + 1) xs) ≡ (row_text t (take i xs) ++ gap i) ++ t (get_or xs i d)
  row_more xs zero d l = ap (row_text t) (take_more xs 0 d l) ∙ append-nil (t (get_or xs 0 d))
  row_more [] (suc i) d l = absurd (omega arith)
  row_more (x ∷ xs) (suc i) d l = ap (row_text t) (take_more (x ∷ xs) (suc i) d l) ∙ after_some x (take i xs) (get_or xs i d)
      ∙ ap (λ b. (row_text t (x ∷ take i xs) ++ cond b [] (32 ∷ [])) ++ t (get_or xs i d)) (sym (ne_eqb (suc i) 0 (λ e. omega arith)))

-- what stands before a row
abbrev pub turn : ℕ → List ℕ
turn n = cond (eqb n 0) [] (10 ∷ [])

module _ {L : Type 0} (t : L → List ℕ) (w : ℕ) where
  rows_append : (k : ℕ) (xs ys : List L) → rows_from t w k (xs ++ ys) ≡ rows_from t w k xs ++ rows_from t w (k + length xs) ys
  rows_append k [] ys = let here : k ≡ k + 0 = omega arith in ap (λ n. rows_from t w n ys) here
  rows_append k (x ∷ xs) ys =
      let here : k + 1 + length xs ≡ k + length (x ∷ xs) = omega arith in
      ap (λ s. gap_at w k ++ (t x ++ s)) (rows_append (k + 1) xs ys ∙ ap (λ n. rows_from t w (k + 1) xs ++ rows_from t w n ys) here)
      ∙ (ap (λ s. gap_at w k ++ s) (sym (append_assoc (t x) (rows_from t w (k + 1) xs) (rows_from t w (k + length (x ∷ xs)) ys)))
      ∙ sym (append_assoc (gap_at w k) (t x ++ rows_from t w (k + 1) xs) (rows_from t w (k + length (x ∷ xs)) ys)))

  -- inside a row a space stands before a level
  gap_inside : (n j : ℕ) → 0 < j → j < max w 1 → gap_at w (n * max w 1 + j) ≡ 32 ∷ []
  gap_inside n j some few =
      let here : (n * max w 1 + j) % max w 1 ≡ j = mod-mul-add n (max w 1) j few in
      ap (λ b. cond {A = List ℕ} b [] (cond (eqb ((n * max w 1 + j) % max w 1) 0) (10 ∷ []) (32 ∷ []))) (ne_eqb (n * max w 1 + j) 0 (λ e. omega arith))
      ∙ ap (λ b. cond {A = List ℕ} b (10 ∷ []) (32 ∷ [])) (ne_eqb ((n * max w 1 + j) % max w 1) 0 (λ e. omega (arith, here, e)))

  row_inside : (n j : ℕ) (ys : List L) → 0 < j → j + length ys ≤ max w 1 → rows_from t w (n * max w 1 + j) ys ≡ spaced t ys
  row_inside n j [] some few = refl
  row_inside n j (y ∷ ys) some few =
      let here : n * max w 1 + j + 1 ≡ n * max w 1 + (j + 1) = omega arith in
      ap (λ g. g ++ (t y ++ rows_from t w (n * max w 1 + j + 1) ys)) (gap_inside n j some (omega arith))
      ∙ ap (λ r. 32 ∷ (t y ++ r)) (ap (λ k. rows_from t w k ys) here ∙ row_inside n (j + 1) ys (omega arith) (omega arith))

  gap_before : (n at : ℕ) → 0 < max w 1 → at ≡ n * max w 1 → gap_at w at ≡ turn n
  gap_before zero at some e = let z : at ≡ 0 = omega (arith, e, zero-mul (max w 1)) in ap (gap_at w) z
  gap_before (suc n) at some e =
      let whole : at % max w 1 ≡ 0 = ap (λ k. k % max w 1) (e ∙ sym (add-zero (suc n * max w 1))) ∙ mod-mul-add (suc n) (max w 1) 0 some in
      ap (λ b. cond {A = List ℕ} b [] (cond (eqb (at % max w 1) 0) (10 ∷ []) (32 ∷ []))) (ne_eqb at 0 (λ z. omega (arith, e, z, suc-mul n (max w 1))))
      ∙ ap (λ b. cond {A = List ℕ} b (10 ∷ []) (32 ∷ [])) (eq-eqb (at % max w 1) 0 whole)
      ∙ sym (ap (λ b. cond {A = List ℕ} b [] (10 ∷ [])) (ne_eqb (suc n) 0 (λ z. omega arith)))

  row_at : (n at : ℕ) (row : List L) → at ≡ n * max w 1 → 0 < length row → length row ≤ max w 1 → rows_from t w at row ≡ turn n ++ row_text t row
  row_at n at [] e some few = absurd (omega arith)
  row_at n at (y ∷ ys) e some few =
      ap (λ g. g ++ (t y ++ rows_from t w (at + 1) ys)) (gap_before n at (omega arith) e)
      ∙ ap (λ r. turn n ++ (t y ++ r)) (ap (λ k. rows_from t w (k + 1) ys) e ∙ row_inside n 1 ys (omega arith) (omega arith))

  -- the levels in front of the rest are written, and they are so many rows
  pub record Parted (levels rest : List L) (rows : ℕ) (text : List ℕ) : Type 0 where
    pub done : List L
    pub all : levels ≡ done ++ rest
    pub whole : 0 < length rest → length done ≡ rows * max w 1
    pub written : text ≡ rows_text t w done

  pub parted_starts : (levels : List L) (text : List ℕ) → text ≡ [] → Parted levels levels 0 text
  parted_starts levels text e = record { done = []; all = refl; whole = λ l. sym (zero-mul (max w 1)); written = e }

  pub parted_more : (levels before row rest : List L) (n : ℕ) (text : List ℕ) → before ≡ row ++ rest → length row ≡ min (max w 1) (length before) → 0 < length before → Parted levels before n text → Parted levels rest (n + 1) ((text ++ turn n) ++ row_text t row)
  parted_more levels before row rest n text is long some so =
      let at : length so.done ≡ n * max w 1 = so.whole some in
      let lens : length before ≡ length row + length rest = ap length is ∙ length-append row rest in
      record {
        done = so.done ++ row;
        all = so.all ∙ ap (λ r. so.done ++ r) is ∙ sym (append_assoc so.done row rest);
        whole = λ l. omega (arith, at, lens, long, length-append so.done row, l);
        written =
            append_assoc text (turn n) (row_text t row)
            ∙ (ap (λ s. s ++ (turn n ++ row_text t row)) so.written
            ∙ (ap (λ s. rows_text t w so.done ++ s) (sym (row_at n (0 + length so.done) row (omega (arith, at)) (omega (arith, long, lens)) (omega (arith, long))))
            ∙ sym (rows_append 0 so.done row)));
      }

  pub parted_ends : (levels rest : List L) (n : ℕ) (text : List ℕ) → length rest ≡ 0 → Parted levels rest n text → text ≡ rows_text t w levels
  parted_ends levels [] n text e so = so.written ∙ ap (rows_text t w) (sym (so.all ∙ append-nil so.done))
  parted_ends levels (x ∷ rest) n text e so = absurd (omega arith)

followed_parts : (o : Option ℕ) (r : Option (List ℕ)) (bs : List ℕ) → followed o r ≡ Some bs → (b : ℕ) × (rest : List ℕ) × (o ≡ Some b) × (r ≡ Some rest) × (bs ≡ b ∷ rest)
followed_parts None r bs e = let z : ◌≡◌ {A = ℕ} 0 1 = cc in absurd (omega arith)
followed_parts (Some b) None bs e = let z : ◌≡◌ {A = ℕ} 0 1 = cc in absurd (omega arith)
followed_parts (Some b) (Some rest) bs e = (b, rest, refl, refl, cc)

bytes_long : (w bs : List ℕ) → hex_bytes w ≡ Some bs → length w ≡ 2 * length bs
bytes_long [] bs e = let n : bs ≡ [] = cc in omega (arith, ap length n)
bytes_long (a ∷ []) bs e = let z : ◌≡◌ {A = ℕ} 0 1 = cc in absurd (omega arith)
bytes_long (a ∷ b ∷ w) bs e =
    let (x, rest, first, second, is) = followed_parts (joined (hex_value a) (hex_value b)) (hex_bytes w) bs e in
    omega (arith, bytes_long w rest second, ap length is)

-- four digits as two bytes
pub four_bytes : (w : List ℕ) → length w ≡ 4 → hex_bytes w ≡ followed (joined (hex_value (get_or w 0 0)) (hex_value (get_or w 1 0))) (followed (joined (hex_value (get_or w 2 0)) (hex_value (get_or w 3 0))) (Some []))
four_bytes w e = ap hex_bytes (four w e)

-- flags are four digits
pub flagged_long : (w : List ℕ) (flags : ℕ) → Flagged w flags → length w ≡ 4
flagged_long w flags f = omega (arith, bytes_long w _ f.bytes)

module _ {A B : Type 0} (first : List ℕ → A → Type 0) (second : List ℕ → B → Type 0) (word : List ℕ) where
  -- two spellings are those of the parts that the first slash leaves
  pub joined_parts : (r : Option (Bor (List ℕ) × Bor (List ℕ))) → IsSplitOnceResult 47 word r → (x : A) (y : B) → Joined first second word x y → MatchOption r ⊥ (λ u. first u.0.now x × second u.1.now y)
  joined_parts None s x y j = split_after 47 word j.before j.after None s (omega arith) j.parts j.whole
  joined_parts (Some u) s x y j =
      let (p, q) = split_after 47 word j.before j.after (Some u) s (omega arith) j.parts j.whole in
      (subst (λ t. first t x) (sym p) j.left, subst (λ t. second t y) (sym q) j.right)
