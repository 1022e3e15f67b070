use Rattle.std.proofs.Common.{vec_items, sym, ap, length, ◌∙◌, length-append, arith}
use Rattle.spelling.specs.Texts.{hex_bytes}
use Rattle.spelling.proofs.Spelled.{after, odd_none, reads_on}
use Rattle.spelling.proofs.levels.bytes.Goals as goal

pub returns-then-digits-eq1 : goal.returns-then-digits-eq1
returns-then-digits-eq1 c = sym (odd_none c.args.digits.now c.if-digits-eq1.true)

pub loop-pair-preserved : goal.loop-pair-preserved
loop-pair-preserved c =
    let before = c.loop-pair.pair-iterator.rest.now in
    let pair = c.in-Some.pair.now in
    let rest = c.next.new.self.rest.now in
    let s = c.in-Some.ensures.steps in
    let so_far = c.loop-pair.invariant in
    let long = s.1.1 ∙ so_far.0 in (
      s.0 ∙ so_far.0,
      omega (arith, so_far.1, ap length s.1.0, length-append pair rest, long),
      reads_on c.args.digits.now (vec_items c.loop-pair.bytes) before pair rest s.1.0 long so_far.2 c.in-Some-byte.byte c.in-Some-byte.ensures
          ∙ ap (λ t. after t (hex_bytes rest)) (sym c.in_ok-push-in-Some-byte.ensures.items),
    )
