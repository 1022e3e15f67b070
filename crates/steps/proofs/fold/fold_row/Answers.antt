use Rattle.std.proofs.Common.{◌&&◌, sym, ◌∙◌, ap₂, arith, rules}
use Rattle.std.proofs.lemmas.Bool.{and_parts}
use Rattle.steps.proofs.Folding.{row_there, upto_none, upto_skip, upto_more, upto_all}
use Rattle.steps.proofs.fold.fold_row.Goals as goal
use Rattle.steps.proofs.fold.fold_row.Goals.{then-has-is_among, else-has-is_among}

pub loop-b-init : goal.loop-b-init
loop-b-init g c = upto_none _ _ c.start.ensures _ c.fill.ensures

pub bound_row-requires : goal.bound_row-requires
bound_row-requires g c = record {
  step = omega arith;
  narrow = omega arith;
  rows = row_there _ _ _ _ c.args.extent.height _ (sym c.is_among.ensures ∙ (and_parts _ _ c.if-has-is_among.true).1) (search rules);
}

pub loop-b-preserved : goal.loop-b-preserved
loop-b-preserved g c =
    elim c.if-has-is_among.branch [
      | then-has-is_among w ↦
          upto_more _ _ _ _ _ c.loop-b.invariant (sym (ap₂ ◌&&◌ (c.has.ensures.0 (omega arith)) c.is_among.ensures) ∙ w.if-has-is_among.true)
          w.bound_row.ensures w.block-is (search rules)
      | else-has-is_among w ↦
          upto_skip _ _ _ _ c.loop-b.invariant (sym (ap₂ ◌&&◌ (c.has.ensures.0 (omega arith)) c.is_among.ensures) ∙ w.if-has-is_among.false) w.block-is
    ]

pub returns : goal.returns
returns g c = upto_all _ _ _ _ _ c.fill.ensures c.loop-b.invariant (omega arith) c.requires.apart
