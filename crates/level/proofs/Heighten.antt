-- Heights as ranks: the least and the greatest of two, and what -1 - v is.
use Rattle.std.proofs.Common.{◌≡◌, ◌-◌, min, max, ℤ, pos, negsuc, ◌-ℤ◌, arith, w16, SFits, to_z, of_z}
use Rattle.std.specs.Int.{int_min, int_max}
use Rattle.std.proofs.lemmas.Int.{ints, to_z-of_z}
use Rattle.std.proofs.lemmas.Bool.Decides.{nat_tests}
use Rattle.level.specs.Delivered.{raised}

raised_min : (a b : ℤ) → raised (int_min a b) ≡ min (raised a) (raised b)
raised_min (pos a) (pos b) = grind (arith, nat_tests)
raised_min (pos a) (negsuc b) = omega arith
raised_min (negsuc a) (pos b) = omega arith
raised_min (negsuc a) (negsuc b) = grind (arith, nat_tests)

raised_max : (a b : ℤ) → raised (int_max a b) ≡ max (raised a) (raised b)
raised_max (pos a) (pos b) = grind (arith, nat_tests)
raised_max (pos a) (negsuc b) = omega arith
raised_max (negsuc a) (pos b) = omega arith
raised_max (negsuc a) (negsuc b) = grind (arith, nat_tests)

raised_negation : (a r : ℤ) → SFits w16 a → r ≡ negsuc 0 -ℤ a → raised r ≡ 65535 - raised a
raised_negation (pos a) (pos r) f e = omega (arith, ints)
raised_negation (pos a) (negsuc r) f e = omega (arith, ints)
raised_negation (negsuc a) (pos r) f e = omega (arith, ints)
raised_negation (negsuc a) (negsuc r) f e = omega (arith, ints)

module _ (a b r : ℤ) (fa : SFits w16 a) (fb : SFits w16 b) (fr : SFits w16 r) where
  pub meet_raised : r ≡ int_min (to_z w16 (of_z w16 a)) (to_z w16 (of_z w16 b)) → min (raised (to_z w16 (of_z w16 r))) 65535 ≡ min (min (raised a) 65535) (min (raised b) 65535)
  meet_raised e =
      let q : r ≡ int_min a b = rw (to_z-of_z w16 a fa, to_z-of_z w16 b fb) at e in
      rw (to_z-of_z w16 r fr, q, raised_min a b) (omega arith)

  pub join_raised : r ≡ int_max (to_z w16 (of_z w16 a)) (to_z w16 (of_z w16 b)) → min (raised (to_z w16 (of_z w16 r))) 65535 ≡ max (min (raised a) 65535) (min (raised b) 65535)
  join_raised e =
      let q : r ≡ int_max a b = rw (to_z-of_z w16 a fa, to_z-of_z w16 b fb) at e in
      rw (to_z-of_z w16 r fr, q, raised_max a b) (omega arith)

pub negation_raised : (a r : ℤ) → SFits w16 a → r ≡ negsuc 0 -ℤ a → min (raised r) 65535 ≡ 65535 - min (raised a) 65535
negation_raised a r fa e = omega (arith, raised_negation a r fa e)
