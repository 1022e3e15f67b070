use Rattle.std.proofs.Common.{◌≡◌, true, is_ok}
use Rattle.report.proofs.Writing.{line_put}
use Rattle.report.proofs.listing.ListingDisplay.fmt.Goals as goal

pub loop-line-preserved : goal.loop-line-preserved
loop-line-preserved g c plain =
    let before = c.loop-line.invariant plain in
    let ok : is_ok c.writeln.result ≡ true = rw c.in_ok-writeln.was in
    line_put g.W.Write.write_str_gives _ _ _ c.lines-line-items.result.now c.loop-line.line-index _ c.loop-line-test.true before (c.writeln.ensures.writes before.plain ok)
