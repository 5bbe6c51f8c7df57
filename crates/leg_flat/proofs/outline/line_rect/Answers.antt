use Rattle.std.proofs.Common.{◌≡◌, ◌≢◌, inl, inr, w64, arith}
use Rattle.std.proofs.lemmas.Int.{ints, to_z-of_z}
use Rattle.leg_geom.proofs.Coordinates.{coordinate_kept}
use Rattle.leg_flat.proofs.OutlineLines.{ends, is_made, made_is, horizontal_points, vertical_points}
use Rattle.leg_flat.proofs.outline.line_rect.Goals as goal

pub unwrap-requires-else-y : goal.unwrap-requires-else-y
unwrap-requires-else-y c =
    let x = ends c.line_sides-left.result.0 c.line_sides-left.result.1 in
    let y = ends c.line_ends-bottom.result.0 c.line_ends-bottom.result.1 in
    is_made _ x y c.line_sides-left.ensures.span c.line_ends-bottom.ensures.span c.new-else-y.ensures

pub returns-then-y-clause-points : goal.returns-then-y-clause-points
returns-then-y-clause-points c =
    let from = c.args.from.now in
    let to = c.args.to.now in
    let from_x = coordinate_kept c.x.result from.x c.x.ensures.is c.x.ensures.within.x in
    let to_x = coordinate_kept c.x-then-y.result to.x c.x-then-y.ensures.is c.x-then-y.ensures.within.x in
    let from_y = coordinate_kept c.y-then-y.result from.y c.y-then-y.ensures.is c.y-then-y.ensures.within.y in
    let ext_from = to_z-of_z w64 c.args.ext_from c.ranges.ext_from in
    let ext_to = to_z-of_z w64 c.args.ext_to c.ranges.ext_to in
    let width = to_z-of_z w64 c.args.width c.ranges.width in
    let along = rw (from_x, to_x, ext_from, ext_to) at c.line_ends-left.ensures.along in
    let across = rw (from_y, width) at c.line_sides-bottom.ensures.across in
    let level : from.y ≡ to.y = grind (arith, ints) in
    let x = ends c.line_ends-left.result.0 c.line_ends-left.result.1 in
    let y = ends c.line_sides-bottom.result.0 c.line_sides-bottom.result.1 in
    let is = made_is _ _ x y c.line_ends-left.ensures.span c.line_sides-bottom.ensures.span c.new.ensures c.unwrap.ensures in
    rw is (horizontal_points from to c.args.width c.args.ext_from c.args.ext_to _ c.requires.line.long level along across)

pub returns-else-y-clause-points : goal.returns-else-y-clause-points
returns-else-y-clause-points c =
    let from = c.args.from.now in
    let to = c.args.to.now in
    let from_x = coordinate_kept c.x-else-y.result from.x c.x-else-y.ensures.is c.x-else-y.ensures.within.x in
    let from_y = coordinate_kept c.y-else-y.result from.y c.y-else-y.ensures.is c.y-else-y.ensures.within.y in
    let to_y = coordinate_kept c.y-else-y-2.result to.y c.y-else-y-2.ensures.is c.y-else-y-2.ensures.within.y in
    let ext_from = to_z-of_z w64 c.args.ext_from c.ranges.ext_from in
    let ext_to = to_z-of_z w64 c.args.ext_to c.ranges.ext_to in
    let width = to_z-of_z w64 c.args.width c.ranges.width in
    let across = rw (from_x, width) at c.line_sides-left.ensures.across in
    let along = rw (from_y, to_y, ext_from, ext_to) at c.line_ends-bottom.ensures.along in
    let long : from.y ≢ to.y = grind (arith, ints) in
    let upright : from.x ≡ to.x = elim c.requires.line.straight [ inl e ↦ e | inr e ↦ absurd (long e) ] in
    let x = ends c.line_sides-left.result.0 c.line_sides-left.result.1 in
    let y = ends c.line_ends-bottom.result.0 c.line_ends-bottom.result.1 in
    let is = made_is _ _ x y c.line_sides-left.ensures.span c.line_ends-bottom.ensures.span c.new-else-y.ensures c.unwrap-else-y.ensures in
    rw is (vertical_points from to c.args.width c.args.ext_from c.args.ext_to _ upright long across along)
