use Rattle.std.proofs.Common.{◌≡◌, ◌-◌, ◌≤◌, Some, get_or, slice_get, arith}
use Rattle.std.proofs.lemmas.Option.{slice_get-get_or}
use Rattle.leg_route_grid.proofs.HullBoxes.{no_hull, hull_of_more}
use Rattle.leg_route_grid.proofs.hulls.hull_to.Goals as goal

pub loop-hull-preserved : goal.loop-hull-preserved
loop-hull-preserved c =
    let hulls = c.args.hulls.now in
    let hull = c.loop-hull.hull in
    let is = c.loop-hull.invariant in
    let i = c.args.last - hull.count in
    let room : hull.count ≤ c.args.last = omega (arith, c.if-hull-last.true) in
    let there : slice_get hulls i ≡ Some (get_or hulls i no_hull) =
    slice_get-get_or hulls i no_hull (let some = is.some in omega (arith, some, room, c.requires.count)) in
    hull_of_more c.args.boxes.now c.args.last hull (get_or hulls i no_hull) c.around.result room is
    (c.requires.hulls i (get_or hulls i no_hull) there) c.around.ensures.first c.around.ensures.second
