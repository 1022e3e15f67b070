-- The flags of a number: what `&`, `|` and `^` do to each, and that they make up the number.
use Rattle.std.proofs.Common.{◌≡◌, ℕ, zero, suc, ◌+◌, ◌/◌, ◌%◌, ◌^◌, ◌<◌, min, max, Bool, true, not, ◌&&◌, ◌||◌, eqb, sym, refl, ap, ◌∙◌, add-one, one-add, arith}
use lib.Bits.{bit_and, bit_or, bit_xor, and_step, or_step, xor_add_and, and_shr, or_shr, xor_shr}
use Rattle.std.proofs.lemmas.Nat.{shr-shr, shr_below}
use Rattle.std.proofs.lemmas.Bool.Decides.{nat_tests, Decides-below_and}
use Rattle.level.specs.Flags.{flag}

-- a last digit of two numbers' meet, join and difference, each digit 0 or 1
both_one : (m p q : ℕ) → p < 2 → q < 2 → m ≡ min p q → eqb m 1 ≡ (eqb p 1 && eqb q 1)
both_one m p q f g e = grind (arith, nat_tests)

either_one : (m p q : ℕ) → p < 2 → q < 2 → m ≡ max p q → eqb m 1 ≡ (eqb p 1 || eqb q 1)
either_one m p q f g e = grind (arith, nat_tests)

other_one : (m p : ℕ) → p < 2 → m + p ≡ 1 → eqb m 1 ≡ not (eqb p 1)
other_one m p f e = grind (arith, nat_tests)

one_is : (p : ℕ) → eqb p 1 ≡ true → p ≡ 1
one_is p e = grind (arith, nat_tests)

module _ (a b i : ℕ) where
  pub flag_and : flag (bit_and a b) i ≡ (flag a i && flag b i)
  flag_and =
      let x = a / 2 ^ i in
      let y = b / 2 ^ i in
      both_one _ (x % 2) (y % 2) (omega arith) (omega arith) (rw (and_shr a b i) (omega (arith, and_step x y)))

  pub flag_or : flag (bit_or a b) i ≡ (flag a i || flag b i)
  flag_or =
      let x = a / 2 ^ i in
      let y = b / 2 ^ i in
      either_one _ (x % 2) (y % 2) (omega arith) (omega arith) (rw (or_shr a b i) (omega (arith, or_step x y)))

  -- `^` with a number that has the flag turns it round
  pub flag_xor : flag b i ≡ true → flag (bit_xor a b) i ≡ not (flag a i)
  flag_xor e =
      let x = a / 2 ^ i in
      let y = b / 2 ^ i in
      let one : y % 2 ≡ 1 = one_is (y % 2) e in
      other_one _ (x % 2) (omega arith) (rw (xor_shr a b i) (omega (arith, xor_add_and x y)))

flag_half : (a i : ℕ) → flag (a / 2) i ≡ flag a (suc i)
flag_half a i = ap (λ n. eqb (n % 2) 1) (shr-shr a 1 i ∙ ap (λ k. a / 2 ^ k) (one-add i))

last_same : (a b : ℕ) → flag a 0 ≡ flag b 0 → a % 2 ≡ b % 2
last_same a b e = grind (arith, nat_tests)

-- numbers below 2 ^ n that have the same first n flags are one
pub same_number : (n a b : ℕ) → a < 2 ^ n → b < 2 ^ n → ((i : ℕ) → i < n → flag a i ≡ flag b i) → a ≡ b
same_number zero a b p q same = omega arith
same_number (suc n) a b p q same =
    let halves : a / 2 ≡ b / 2 = same_number n (a / 2) (b / 2) (half_below a p) (half_below b q) (λ i h. flag_half a i ∙ (same (suc i) (omega arith) ∙ sym (flag_half b i))) in
    omega (arith, last_same a b (same 0 (omega arith)))
  where
    half_below : (x : ℕ) → x < 2 ^ suc n → x / 2 < 2 ^ n
    half_below x h = shr_below x n 1 (rw add-one h)

-- a test that all numbers below n pass
abbrev pub all_below : (ℕ → Bool) → ℕ → Bool
all_below p zero = true
all_below p (suc n) = p n && all_below p n

pub each_below : (p : ℕ → Bool) (n : ℕ) → all_below p n ≡ true → (i : ℕ) → i < n → p i ≡ true
each_below p n e = (Decides-below_and p (λ i. p i ≡ true) (all_below p) (λ i. (λ h. h, λ h. h)) refl (λ _. refl) n).0 e
