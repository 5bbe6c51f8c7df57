use Rattle.std.proofs.Common.{◌∙◌, w64}
use Rattle.std.proofs.lemmas.Int.{to_z-of_z}
use Rattle.leg_geom.proofs.Coordinates.{coordinate_kept}
use Rattle.leg_flat.proofs.OutlineLines.{ends, is_made, made_is}
use Rattle.leg_route_access.proofs.Strips.{same_strip}
use Rattle.leg_route_access.proofs.strip.strip.Goals as goal

pub unwrap-requires : goal.unwrap-requires
unwrap-requires c =
    is_made _ (ends c.reach-left.result.0 c.reach-left.result.1)
    (ends c.reach-bottom.result.0 c.reach-bottom.result.1) c.reach-left.ensures.span c.reach-bottom.ensures.span c.new.ensures

pub returns : goal.returns
returns c =
    let low = c.args.low.now in
    let high = c.args.high.now in
    let width = to_z-of_z w64 c.args.width c.ranges.width in
    let left = rw (coordinate_kept c.x.result low.x c.x.ensures.is c.x.ensures.within.x, width) at c.reach-left.ensures.low in
    let right = rw (coordinate_kept c.x-2.result high.x c.x-2.ensures.is c.x-2.ensures.within.x, width) at c.reach-left.ensures.high in
    let bottom = rw (coordinate_kept c.y.result low.y c.y.ensures.is c.y.ensures.within.y, width) at c.reach-bottom.ensures.low in
    let top = rw (coordinate_kept c.y-2.result high.y c.y-2.ensures.is c.y-2.ensures.within.y, width) at c.reach-bottom.ensures.high in
    made_is _ _ (ends c.reach-left.result.0 c.reach-left.result.1)
    (ends c.reach-bottom.result.0 c.reach-bottom.result.1) c.reach-left.ensures.span c.reach-bottom.ensures.span c.new.ensures c.unwrap.ensures
    ∙ same_strip low high c.args.width c.reach-left.result.0 c.reach-bottom.result.0 c.reach-left.result.1 c.reach-bottom.result.1 left bottom right top
