use Rattle.std.proofs.Common.{FitsSigned, w64}
use Rattle.std.proofs.lemmas.Int.{to_z-of_z}
use Rattle.leg_geom.specs.Line.{ArePlaces}
use Rattle.leg_route_grid.proofs.ValueMarks.{one_marked}
use Rattle.leg_route_grid.proofs.track_marks.mark_value.Goals as goal

pub returns-then-first-end : goal.returns-then-first-end
returns-then-first-end c =
    let fits : FitsSigned w64 c.args.value = c.ranges.value in
    let places : ArePlaces c.args.values.now c.args.value c.args.value c.places_within-first.result.0 c.places_within-first.result.1 =
    simp to_z-of_z at (c.places_within-first.ensures.places c.requires.rising) in
    one_marked c.args.values.now c.args.value c.places_within-first.result.0 c.places_within-first.result.1 places c.args.marks.now c.requires.rising
    c.if-first-end.true c.requires.count
