use Rattle.std.proofs.Common.{◌≡◌, ◌<◌, ◌+◌, min, [], ◌∷◌, ◌++◌, length, string_bytes, sym, refl, rules, ap, ◌∙◌, subst, arith}
use Rattle.spelling.specs.Texts.{row_text}
use Rattle.spelling.proofs.Spelled.{Parted, turn, parted_starts, parted_more}
use Rattle.transcripts.proofs.Telling.{row_told}
use Rattle.transcripts.proofs.tell.tell_rows.Goals as goal

pub loop-row-init : goal.loop-row-init
loop-row-init g c =
    let t = g.L.Written.text in
    let image = c.args.image.now in
    let all : c.into_iter-row-iterator.result.rest.now ≡ image = search rules in (
      search rules,
      (
        0,
        [],
        subst (λ r. Parted t c.args.width image r 0 []) (sym all) (parted_starts t c.args.width image [] refl),
        (λ e. subst (λ r. 0 < length r) (sym all) c.requires),
        g.met.T.Teller.starts c.args.teller.now,
      ),
    )

pub loop-row-preserved : goal.loop-row-preserved
loop-row-preserved g c =
    let t = g.L.Written.text in
    let w = c.args.width in
    let image = c.args.image.now in
    let before = c.loop-row.row-iterator.rest.now in
    let rest = c.next.new.self.rest.now in
    let row = c.in-Some.row.now in
    let so = c.loop-row.invariant.1 in
    let n = so.0 in
    let shown = so.1 in
    let s = c.in-Some.ensures.steps in
    let long = s.1.1 ∙ ap (λ k. min k (length before)) c.loop-row.invariant.0 in
    let line = string_bytes c.in_ok-row.row in
    let told = g.met.T.Teller.joins c.args.teller.now c.loop-row.teller c.tell.new.self (shown ++ turn n) (line ++ 10 ∷ []) so.4 c.in_ok-tell.ensures in (
      s.0 ∙ c.loop-row.invariant.0,
      (
        n + 1,
        (shown ++ turn n) ++ row_text t row,
        parted_more t w image before row rest n shown s.1.0 long s.1.2 so.2,
        (λ e. absurd (omega (arith, e))),
        subst (g.T.Teller.tells c.args.teller.now c.tell.new.self) (row_told shown (row_text t row) line n c.in_ok-row.ensures) told,
      ),
    )
