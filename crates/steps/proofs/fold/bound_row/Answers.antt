use Rattle.std.proofs.Common.{◌≡◌, ℕ, ◌+◌, ◌≤◌, false, sym, ap, ◌∙◌, ⊎_elim, arith}
use Rattle.std.proofs.lemmas.Bool.{cases_lt, cond-false}
use Rattle.std.proofs.lemmas.Bool.Decides.{nat_tests}
use Rattle.steps.specs.Images.{among}
use Rattle.steps.proofs.fold.bound_row.Goals as goal

is_past : (n x : ℕ) → n + 2 ≤ x → among n x ≡ false
is_past n x a = grind (arith, nat_tests)

pub returns : goal.returns
returns g c = record {
  levels = λ x d h.
      ⊎_elim (λ l. c.loop-x.invariant.done x d l)
      (λ l. ap g.L.Level.meaning (c.loop-x.invariant.rest x d l) ∙ sym (cond-false _ _ _ (is_past c.args.width (x + c.args.i) (omega arith))))
      (cases_lt x c.loop-x.x);
  kept = c.loop-x.invariant.kept;
}
