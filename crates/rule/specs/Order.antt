-- How ratios compare: as the fractions that they are, by cross-multiplication.
use Rattle.std.specs.Prelude.{◌≡◌, ℕ, ◌*◌, ◌<◌, ◌≤◌}
use Rattle.std.proofs.Common.{sym, ap, ap₂, ◌∙◌, mul-le-mul_right, mul-lt-mul_of_pos_right, lt_of_mul-lt-mul_right, arith}
use Rattle.std.specs.Cmp.{IsTotalOrder, nat_cmp_total, nat_cmp_is, ranks, ranked}
use Rattle.std.specs.Ordering.{MatchOrdering, nat_cmp}
use Rattle.std.specs.declared.cmp.Ordering.{Ordering}
use Rattle.std.specs.declared.cmp.Ordering.TheVariants.{Less, Equal, Greater}
use Rattle.rule.specs.declared.window.Ratio.{Ratio}

-- the order of the cross products
abbrev pub compared : Ratio → Ratio → Ordering
compared p q = nat_cmp (p.num * q.den) (q.num * p.den)

scaled : (k a b : ℕ) → 0 < k → nat_cmp a b ≡ nat_cmp (a * k) (b * k)
scaled k a b pos = nat_cmp_is (a * k) (b * k) (nat_cmp a b) (both (nat_cmp a b) (ranks a b))
  where
    both : (r : Ordering) → MatchOrdering r (a < b) (a ≡ b) (b < a) → MatchOrdering r (a * k < b * k) (a * k ≡ b * k) (b * k < a * k)
    both Less l = mul-lt-mul_of_pos_right l pos
    both Equal e = ap (λ n. n * k) e
    both Greater l = mul-lt-mul_of_pos_right l pos

less_through : (a x b y c z : ℕ) → 0 < x → a * y < b * x → b * z < c * y → a * z < c * x
less_through a x b y c z pos p q =
    let l : a * y ≤ b * x = omega arith in
    let h : a * z * y < c * x * y = omega (arith, mul-le-mul_right z l, mul-lt-mul_of_pos_right q pos) in
    lt_of_mul-lt-mul_right y h

-- the order is total
pub compared_total : IsTotalOrder compared
compared_total = record {
  antisymm = λ p q. nat_cmp_total.antisymm (p.num * q.den) (q.num * p.den);
  trans = λ p q r e f.
      sym (nat_cmp_is _ _ Less (less_through p.num p.den q.num q.den r.num r.den p.some (ranked _ _ Less (sym e)) (ranked _ _ Less (sym f))));
  congr = λ p q r e.
      let same : p.num * q.den ≡ q.num * p.den = ranked _ _ Equal (sym e) in
      let left : p.num * r.den * q.den ≡ q.num * r.den * p.den = omega (arith, ap (λ n. n * r.den) same) in
      let right : r.num * p.den * q.den ≡ r.num * q.den * p.den = omega arith in
      scaled q.den (p.num * r.den) (r.num * p.den) q.some
      ∙ (ap₂ nat_cmp left right ∙ sym (scaled p.den (q.num * r.den) (r.num * q.den) p.some));
}
