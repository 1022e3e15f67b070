use Rattle.std.proofs.Common.{min, cond, eqb, [], ◌∷◌, ◌++◌, length, string_bytes, sym, ap, ◌∙◌, ap₂, subst}
use Rattle.spelling.proofs.Spelled.{Parted, parted_more}
use Rattle.spelling.proofs.levels.rows.Goals as goal

pub loop-i-preserved : goal.loop-i-preserved
loop-i-preserved g c =
    let t = g.L.Written.text in
    let w = c.args.width in
    let levels = c.args.levels.now in
    let before = c.loop-i.i-iterator.iter.rest.now in
    let rest = c.next.new.self.iter.rest.now in
    let n = c.loop-i.i-iterator.count in
    let s = c.in-Some.ensures.steps in
    let long = s.0.1.1 ∙ ap (λ k. min k (length before)) c.loop-i.invariant.0 in
    let sign = c.parting.ensures ∙ ap (λ k. cond (eqb k 0) [] (10 ∷ [])) s.1 in
    let front = c.in_ok-push_str.ensures.bytes ∙ ap (λ u. string_bytes c.loop-i.text ++ u) sign in
    let all = c.in_ok-push_str-2.ensures.bytes ∙ ap₂ (λ x y. x ++ y) front (c.as_str.ensures.value ∙ c.in_ok-line.ensures) in
    let more = parted_more t w levels before c.in-Some.levels.now rest n (string_bytes c.loop-i.text) s.0.1.0 long s.0.1.2 c.loop-i.invariant.1 in (
      s.0.0 ∙ c.loop-i.invariant.0,
      subst (λ k. Parted t w levels rest k (string_bytes c.push_str-in-loop-i.new.self)) (sym s.2) (subst (Parted t w levels rest _) (sym all) more),
    )
