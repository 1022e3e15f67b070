-- An answer past a test, and one that a test stops.
use Rattle.std.proofs.Common.{◌≡◌, Bool, true, false, sym, ap, ◌∙◌}
use Rattle.recipe.specs.declared.fault.Refusal.{Refusal}
use Rattle.recipe.specs.Plans.{Answer, refused, unless}

pub pass : {A : Type 0} (t : Bool) (r : Refusal) (x y : Answer A) → t ≡ false → y ≡ x → y ≡ unless t r x
pass t r x y e h = h ∙ sym (ap (λ b. unless b r x) e)

pub stop : {A : Type 0} (t : Bool) (r : Refusal) (x : Answer A) → t ≡ true → refused r ≡ unless t r x
stop t r x e = sym (ap (λ b. unless b r x) e)
