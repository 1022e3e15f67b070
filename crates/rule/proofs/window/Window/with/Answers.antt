use Rattle.std.proofs.Common.{◌≡◌, ℕ, ◌+◌, ◌*◌, min, max, sym, subst, arith}
use Rattle.rule.specs.Ranks.{Numbers, more}
use Rattle.rule.specs.Windows.{made_more}
use Rattle.rule.specs.Views.{seen}
use Rattle.rule.proofs.Kept.{Kept, kept}
use Rattle.rule.proofs.window.Window.with.Goals as goal

-- the numbers that are put together, with what `min` and `max` returned
module _ (w : Numbers) (r low high : ℕ) (e : low ≡ min w.lowest r) (f : high ≡ max w.highest r) where
  put_more : more w r ≡ record { count = w.count + 1; sum = w.sum + r; squares = w.squares + r * r; lowest = low; highest = high }
  put_more = λ i. record { count = w.count + 1; sum = w.sum + r; squares = w.squares + r * r; lowest = sym e i; highest = sym f i }

pub invariant_of-result : goal.invariant_of-result
invariant_of-result c =
    let w = seen c.args.self in
    subst Kept (put_more w _ _ _ c.min.ensures c.max.ensures) (kept _ (made_more w _ c.args.self.made (omega arith) (omega arith)))
