use Rattle.std.proofs.Common.{◌≡◌, ◌/◌, ◌%◌, sym, ap, ◌∙◌, subst, ap₂, arith}
use lib.Arith.{digits_div, digits_mod}
use Rattle.recipe.specs.Elements.{offsets}
use Rattle.steps.specs.Images.{Place}
use Rattle.steps.specs.Selections.{selected}
use Rattle.steps.specs.Planes.{size_of, places, index, Holds}
use Rattle.steps.proofs.Written.{partly_none, partly_more, index_fits, holds_kept, apart_out}
use Rattle.steps.proofs.select.select_plane.Goals as goal

pub loop-i-init : goal.loop-i-init
loop-i-init g c = partly_none

pub loop-i-preserved : goal.loop-i-preserved
loop-i-preserved g c =
    let K = g.L.Level.kind in
    let m = g.L.Level.meaning in
    let s = size_of c.args.extent in
    let E = offsets c.args.element in
    let C = g.R.Rule.criterion in
    partly_more _ _ _ c.loop-i.invariant (omega arith) (omega arith)
    (λ d f held.
    let still = holds_kept K m s c.args.from c.args.to (places s) _ _ f (apart_out _ _ _ _ _ c.requires.planes) c.loop-i.invariant.kept held in
    c.selected_at.ensures f (subst (λ s. Holds K m s c.loop-i.block c.args.from f) (sym c.at-place.ensures.extent) still)
    ∙ ap₂ (λ s p. selected K s C c.args.side E f p) c.at-place.ensures.extent c.at-place.ensures.place)

pub returns : goal.returns
returns g c =
    let K = g.L.Level.kind in
    let m = g.L.Level.meaning in
    let s = size_of c.args.extent in
    record {
      made = λ f held p d i.
          let fits = index_fits s p i in
          let place : ◌≡◌ {A = Place} (record { column = index s p % s.width; row = index s p / s.width }) p =
          (λ j. record { column = digits_mod p.row i.0 j; row = digits_div p.row i.0 j }) in
          c.loop-i.invariant.done (index s p) d (omega arith) f held
          ∙ ap (selected K s g.R.Rule.criterion c.args.side (offsets c.args.element) f) place;
      kept = λ k d out. c.loop-i.invariant.kept k d (omega arith);
    }
