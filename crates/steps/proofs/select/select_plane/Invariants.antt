use Rattle.std.proofs.Common.{◌≡◌, ◌/◌, ◌%◌}
use Rattle.recipe.specs.Elements.{offsets}
use Rattle.steps.specs.Images.{Image}
use Rattle.steps.specs.Selections.{selected}
use Rattle.steps.specs.Planes.{size_of, places, Holds}
use Rattle.steps.proofs.Written.{Partly}
use Rattle.steps.proofs.select.select_plane.Given as goal

abbrev pub invariant-loop-i : goal.invariant-loop-i
invariant-loop-i g l =
    let K = g.L.Level.kind in
    let m = g.L.Level.meaning in
    let s = size_of l.extent in
    Partly
    (λ d k x. (f : Image K) → Holds K m s l.initial.block l.from f →
    m x ≡ selected K s g.R.Rule.criterion l.side (offsets l.element) f (record { column = k % l.extent.width; row = k / l.extent.width }))
    l.to (places s) l.initial.block l.i l.block
