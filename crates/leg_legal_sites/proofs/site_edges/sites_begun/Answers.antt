-- The distance divided by the width, rounded up.
use Rattle.std.proofs.Common.{◌≡◌, ◌<◌, pos, w64, arith}
use Rattle.std.proofs.lemmas.Int.{ints, to_z-of_z}
use Rattle.leg_legal_sites.proofs.SiteEdges.{sites_begin}
use Rattle.leg_legal_sites.proofs.site_edges.sites_begun.Goals as goal

pub returns : goal.returns
returns c =
    let size = c.args.size.now in
    let n = c.unsigned_abs.result in
    let wide = c.width.ensures.proper.area.wide in
    let width : size.width ≡ pos n = omega (arith, ints, c.unsigned_abs.ensures.value, c.width.ensures.is, wide) in
    let far = rw (to_z-of_z w64 c.args.x c.ranges.x) at c.offset.ensures in
    let some : 0 < n = omega (arith, ints, width, wide) in
    rw c.div_ceil.ensures (sites_begin c.args.row.now.at.x c.args.x size.width c.offset.result n width some far)
