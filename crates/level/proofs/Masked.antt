-- Numbers of which the first n flags are a level: what `&`, `|` and `^` under a mask of those flags do.
use Rattle.std.proofs.Common.{◌≡◌, ℕ, ◌^◌, ◌<◌, Bool, true, false, ◌&&◌, T, sym, refl, ap, ◌∙◌, subst, arith}
use mathlib.Core.Path.{fun_ext}
use lib.Bits.{bit_and, bit_or, bit_xor, and_le_r}
use Rattle.level.specs.Flags.{flag, flags, first_flags}
use Rattle.level.specs.Truths.{and_left, and_right, and_most, either_way}
use Rattle.level.proofs.Numbers.{all_below, each_below, flag_and, flag_or, flag_xor, same_number}

and_yes : (a : Bool) → (a && true) ≡ a
and_yes true = refl
and_yes false = refl

-- labels of one level agree in its flags, and the other way round
pub same_flags : (n a b : ℕ) → ((i : ℕ) → i < n → flag a i ≡ flag b i) → first_flags n a ≡ first_flags n b
same_flags n a b same = fun_ext (λ i. same i.0 i.1)

pub flags_same : (n a b : ℕ) → first_flags n a ≡ first_flags n b → (i : ℕ) → i < n → flag a i ≡ flag b i
flags_same n a b e i h = ap (λ s. s (i, h)) e

-- a mask that has the n flags and no other: at numerals the two facts are `refl` and `lit< tt`
module _ (n mask : ℕ) (full : all_below (flag mask) n ≡ true) (small : mask < 2 ^ n) where
  has : (i : ℕ) → i < n → flag mask i ≡ true
  has = each_below (flag mask) n full

  kept : (x i : ℕ) → i < n → flag (bit_and x mask) i ≡ flag x i
  kept x i h = flag_and x mask i ∙ (ap (λ b. flag x i && b) (has i h) ∙ and_yes (flag x i))

  pub clear : (x : ℕ) → bit_and x mask < 2 ^ n
  clear x = omega (arith, and_le_r x mask)

  pub masked_same : (a b : ℕ) → ((i : ℕ) → i < n → flag a i ≡ flag b i) → bit_and a mask ≡ bit_and b mask
  masked_same a b same = same_number n _ _ (clear a) (clear b) (λ i h. kept a i h ∙ (same i h ∙ sym (kept b i h)))

  pub same_masked : (a b : ℕ) → bit_and a mask ≡ bit_and b mask → (i : ℕ) → i < n → flag a i ≡ flag b i
  same_masked a b e i h = sym (kept a i h) ∙ (ap (λ x. flag x i) e ∙ kept b i h)

  pub all_set : first_flags n mask ≡ (flags n).greatest
  all_set = fun_ext (λ i. has i.0 i.1)

  pub met : (a b : ℕ) → first_flags n (bit_and (bit_and a b) mask) ≡ (flags n).meet (first_flags n a) (first_flags n b)
  met a b = fun_ext (λ i. kept (bit_and a b) i.0 i.1 ∙ flag_and a b i.0)

  pub joined : (a b : ℕ) → first_flags n (bit_and (bit_or a b) mask) ≡ (flags n).join (first_flags n a) (first_flags n b)
  joined a b = fun_ext (λ i. kept (bit_or a b) i.0 i.1 ∙ flag_or a b i.0)

  pub negated : (a : ℕ) → first_flags n (bit_and (bit_xor a mask) mask) ≡ (flags n).negation (first_flags n a)
  negated a = fun_ext (λ i. kept (bit_xor a mask) i.0 i.1 ∙ flag_xor a mask i.0 (has i.0 i.1))

  pub included : (a b : ℕ) → bit_and (bit_and a b) mask ≡ bit_and a mask → (flags n).◌⊑◌ (first_flags n a) (first_flags n b)
  included a b e i t =
      let both : (flag a i.0 && flag b i.0) ≡ flag a i.0 = sym (flag_and a b i.0) ∙ same_masked (bit_and a b) a e i.0 i.1 in
      and_right (flag a i.0) (flag b i.0) (subst T (sym both) t)

  pub includes : (a b : ℕ) → (flags n).◌⊑◌ (first_flags n a) (first_flags n b) → bit_and (bit_and a b) mask ≡ bit_and a mask
  includes a b p = masked_same (bit_and a b) a (λ i h. flag_and a b i ∙ either_way _ _ (and_left _ _) (and_most _ _ (flag a i) (λ t. t) (p (i, h))))
