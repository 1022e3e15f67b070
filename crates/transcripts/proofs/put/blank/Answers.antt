use Rattle.std.proofs.Common.{[], ◌∷◌, ◌++◌, map, vec_items, ap, ◌∙◌, ap₂, arith}
use mathlib.Core.List.{map-append}
use Rattle.std.proofs.lemmas.List.{replicate_more}
use Rattle.transcripts.proofs.put.blank.Goals as goal

pub loop-i-preserved : goal.loop-i-preserved
loop-i-preserved g c =
    let m = g.L.Level.meaning in (
      omega (arith, c.in_ok-push.ensures.len, c.loop-i.invariant.0),
      ap (map m) c.in_ok-push.ensures.items
          ∙ map-append m (vec_items c.loop-i.levels) (c.least.result ∷ [])
          ∙ ap₂ (λ xs x. xs ++ x ∷ []) c.loop-i.invariant.1 c.least.ensures
          ∙ replicate_more c.loop-i._i g.L.Level.kind.least,
    )
