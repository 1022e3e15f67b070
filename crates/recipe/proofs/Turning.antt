-- Bits written in the opposite order, one by one.
use Rattle.std.proofs.Common.{◌≡◌, ℕ, zero, suc, ◌+◌, ◌-◌, ◌*◌, ◌/◌, ◌%◌, ◌^◌, ◌<◌, eqb, sym, ap, ◌∙◌, subst, not-suc-le-zero, w32, arith}
use Rattle.std.proofs.lemmas.Nat.{shr-shr, pow-add, mod_below}
use Rattle.std.specs.Int.{reverse_bits, reverse_bits_onto}
use Rattle.recipe.specs.Elements.{bits}

-- t has the first b bits of n, the last one first
pub record Turns (n b t : ℕ) : Type 0 where
  pub narrow : t < 2 ^ b
  pub same : (j : ℕ) → j < b → bits t j ≡ bits n (b - 1 - j)

pub turns_none : (n : ℕ) → Turns n 0 0
turns_none n = record { narrow = omega arith; same = λ j l. absurd (not-suc-le-zero l) }

above : (t c j : ℕ) → c < 2 → (t * 2 + c) / 2 ^ (1 + j) ≡ t / 2 ^ j
above t c j l =
    let half : (t * 2 + c) / 2 ^ 1 ≡ t = omega arith in
    sym (shr-shr (t * 2 + c) 1 j) ∙ ap (λ x. x / 2 ^ j) half

pub turns_more : (n b t : ℕ) → Turns n b t → Turns n (b + 1) (t * 2 + n / 2 ^ b % 2)
turns_more n b t h = record {
  narrow = omega (arith, pow-add 2 b 1, mod_below (n / 2 ^ b) 2 (omega arith), h.narrow);
  same = bit;
}
  where
    c : ℕ
    c = n / 2 ^ b % 2

    bit : (j : ℕ) → j < b + 1 → bits (t * 2 + c) j ≡ bits n (b + 1 - 1 - j)
    bit zero l =
        let low : (t * 2 + c) / 2 ^ 0 % 2 ≡ c = omega (arith, mod_below (n / 2 ^ b) 2 (omega arith)) in
        let i : b + 1 - 1 - 0 ≡ b = omega arith in
        ap (λ x. eqb x 1) low ∙ ap (bits n) (sym i)
    bit (suc j) l =
        let k : suc j ≡ 1 + j = omega arith in
        let i : b - 1 - j ≡ b + 1 - 1 - suc j = omega arith in
        ap (λ x. bits (t * 2 + c) x) k
        ∙ (ap (λ x. eqb (x % 2) 1) (above t c j (mod_below (n / 2 ^ b) 2 (omega arith))) ∙ (h.same j (omega arith) ∙ ap (bits n) i))

-- k bits more, after b of them
turns_onto : (k n b t : ℕ) → Turns n b t → Turns n (k + b) (reverse_bits_onto k (n / 2 ^ b) t)
unfolding reverse_bits_onto
turns_onto zero n b t h = let z : b ≡ 0 + b = omega arith in subst (λ c. Turns n c t) z h
turns_onto (suc k) n b t h =
    let all : k + (b + 1) ≡ suc k + b = omega arith in
    let rest : n / 2 ^ (b + 1) ≡ n / 2 ^ b / 2 = sym (shr-shr n b 1) in
    let more : Turns n (k + (b + 1)) (reverse_bits_onto k (n / 2 ^ (b + 1)) (t * 2 + n / 2 ^ b % 2)) = turns_onto k n (b + 1) _ (turns_more n b t h) in
    subst (λ c. Turns n c (reverse_bits_onto k (n / 2 ^ b / 2) (t * 2 + n / 2 ^ b % 2))) all
    (subst (λ r. Turns n (k + (b + 1)) (reverse_bits_onto k r (t * 2 + n / 2 ^ b % 2))) rest more)

-- all 32 bits of a number turned round
turns_whole : (n : ℕ) → Turns n 32 (reverse_bits w32 n)
turns_whole n =
    let first : n / 2 ^ 0 ≡ n = omega arith in
    subst (λ r. Turns n 32 (reverse_bits_onto 32 r 0)) first (turns_onto 32 n 0 0 (turns_none n))

-- past the last 7 of them, bit j is bit 24 - j
pub turned_bits : (n j : ℕ) → j < 25 → bits (reverse_bits w32 n / 2 ^ 7) j ≡ bits n (24 - j)
turned_bits n j l =
    let back : 32 - 1 - (7 + j) ≡ 24 - j = omega arith in
    ap (λ x. eqb (x % 2) 1) (shr-shr (reverse_bits w32 n) 7 j) ∙ ((turns_whole n).same (7 + j) (omega arith) ∙ ap (bits n) back)
