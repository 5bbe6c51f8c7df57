use Rattle.leg_polygon.proofs.SideEnds.{rows_of_walk}
use Rattle.leg_polygon.proofs.sweep.all_bands.Goals as goal

pub returns-clause-rows : goal.returns-clause-rows
returns-clause-rows g c =
    let moved = rw c.in_ok-ends.ensures at c.sort_by_height.ensures.same in
    rw (c.deref.ensures.value, rows_of_walk c.args.walk.now c.sort_by_height.new.points.items moved c.args.bands.now) at c.all_rows.ensures.rows

pub returns-clause-many : goal.returns-clause-many
returns-clause-many g c =
    let moved = rw c.in_ok-ends.ensures at c.sort_by_height.ensures.same in
    rw (c.deref.ensures.value, rows_of_walk c.args.walk.now c.sort_by_height.new.points.items moved c.args.bands.now) at c.all_rows.ensures.many
