use Rattle.std.proofs.Common.{ap, arith}
use Rattle.level.specs.declared.side.Side.TheVariants.{Low, High}
use Rattle.recipe.specs.Steps.{form, reads_ranks, folding, filtering, selecting, bounding, averaging}
use Rattle.steps.proofs.Stacking.{top_fits, frame_apart, scratch_apart, two_apart, started, negated_top, changed_top, merged_top}
use Rattle.steps.proofs.apply.apply_step.Goals as goal

pub copy-requires : goal.copy-requires
copy-requires g c = frame_apart c.places-n.ensures.value c.requires (ap form c.in-Frame.is)

pub negate-requires : goal.negate-requires
negate-requires g c = let fits = top_fits c.places-n.ensures.value c.requires in omega arith

pub fold-requires : goal.fold-requires
fold-requires g c = scratch_apart c.places-n.ensures.value c.requires

pub fold-requires-in-Dilate : goal.fold-requires-in-Dilate
fold-requires-in-Dilate g c = scratch_apart c.places-n.ensures.value c.requires

pub filter-requires : goal.filter-requires
filter-requires g c = scratch_apart c.places-n.ensures.value c.requires

pub filter-requires-in-Close : goal.filter-requires-in-Close
filter-requires-in-Close g c = scratch_apart c.places-n.ensures.value c.requires

pub select-requires : goal.select-requires
select-requires g c = record {
  ranked = c.requires.ranked (ap (λ x. reads_ranks (form x)) c.in-SelectLow.is);
  planes = scratch_apart c.places-n.ensures.value c.requires;
}

pub select-requires-in-SelectHigh : goal.select-requires-in-SelectHigh
select-requires-in-SelectHigh g c = record {
  ranked = c.requires.ranked (ap (λ x. reads_ranks (form x)) c.in-SelectHigh.is);
  planes = scratch_apart c.places-n.ensures.value c.requires;
}

pub bound_planes-requires : goal.bound_planes-requires
bound_planes-requires g c = two_apart c.places-n.ensures.value c.requires (bounding Low) _ (ap form c.in-Meet.is) c.saturating_sub-below.ensures

pub bound_planes-requires-in-Join : goal.bound_planes-requires-in-Join
bound_planes-requires-in-Join g c = two_apart c.places-n.ensures.value c.requires (bounding High) _ (ap form c.in-Join.is) c.saturating_sub-below.ensures

pub average_planes-requires : goal.average_planes-requires
average_planes-requires g c = record {
  ranked = c.requires.ranked (ap (λ x. reads_ranks (form x)) c.in-MeanLow.is);
  planes = two_apart c.places-n.ensures.value c.requires (averaging Low) _ (ap form c.in-MeanLow.is) c.saturating_sub-below.ensures;
}

pub average_planes-requires-in-MeanHigh : goal.average_planes-requires-in-MeanHigh
average_planes-requires-in-MeanHigh g c = record {
  ranked = c.requires.ranked (ap (λ x. reads_ranks (form x)) c.in-MeanHigh.is);
  planes = two_apart c.places-n.ensures.value c.requires (averaging High) _ (ap form c.in-MeanHigh.is) c.saturating_sub-below.ensures;
}

pub returns-in-Frame : goal.returns-in-Frame
returns-in-Frame g c = started c.places-n.ensures.value c.requires (ap form c.in-Frame.is) c.copy.ensures

pub returns-in-Negate : goal.returns-in-Negate
returns-in-Negate g c = negated_top c.places-n.ensures.value c.requires (ap form c.in-Negate.is) c.negate.ensures

pub returns-in-Erode : goal.returns-in-Erode
returns-in-Erode g c =
    changed_top c.places-n.ensures.value c.requires (folding Low c.in-Erode.element) (ap form c.in-Erode.is) c.fold.ensures

pub returns-in-Dilate : goal.returns-in-Dilate
returns-in-Dilate g c =
    changed_top c.places-n.ensures.value c.requires (folding High c.in-Dilate.element) (ap form c.in-Dilate.is) c.fold-in-Dilate.ensures

pub returns-in-Open : goal.returns-in-Open
returns-in-Open g c =
    changed_top c.places-n.ensures.value c.requires (filtering Low c.in-Open.element) (ap form c.in-Open.is) c.filter.ensures

pub returns-in-Close : goal.returns-in-Close
returns-in-Close g c =
    changed_top c.places-n.ensures.value c.requires (filtering High c.in-Close.element) (ap form c.in-Close.is) c.filter-in-Close.ensures

pub returns-in-SelectLow : goal.returns-in-SelectLow
returns-in-SelectLow g c =
    changed_top c.places-n.ensures.value c.requires (selecting Low c.in-SelectLow.element) (ap form c.in-SelectLow.is) c.select.ensures

pub returns-in-SelectHigh : goal.returns-in-SelectHigh
returns-in-SelectHigh g c =
    changed_top c.places-n.ensures.value c.requires (selecting High c.in-SelectHigh.element) (ap form c.in-SelectHigh.is) c.select-in-SelectHigh.ensures

pub returns-in-Meet : goal.returns-in-Meet
returns-in-Meet g c =
    merged_top c.places-n.ensures.value c.requires (bounding Low) _ (ap form c.in-Meet.is) c.saturating_sub-below.ensures c.bound_planes.ensures

pub returns-in-Join : goal.returns-in-Join
returns-in-Join g c =
    merged_top c.places-n.ensures.value c.requires (bounding High) _ (ap form c.in-Join.is) c.saturating_sub-below.ensures c.bound_planes-in-Join.ensures

pub returns-in-MeanLow : goal.returns-in-MeanLow
returns-in-MeanLow g c =
    merged_top c.places-n.ensures.value c.requires (averaging Low) _ (ap form c.in-MeanLow.is) c.saturating_sub-below.ensures c.average_planes.ensures

pub returns-in-MeanHigh : goal.returns-in-MeanHigh
returns-in-MeanHigh g c =
    merged_top c.places-n.ensures.value c.requires (averaging High) _ (ap form c.in-MeanHigh.is) c.saturating_sub-below.ensures c.average_planes-in-MeanHigh.ensures
