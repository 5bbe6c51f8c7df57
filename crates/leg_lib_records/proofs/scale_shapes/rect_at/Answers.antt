use Rattle.std.proofs.Common.{◌-ℤ◌, ◌<ℤ◌, arith}
use Rattle.std.proofs.lemmas.Int.{ints}
use Rattle.leg_lemmas.proofs.Options.{there_where}
use Rattle.leg_geom.specs.Plane.{IsCoordinate}
use Rattle.leg_lib_records.specs.Scale.{IsLengthAt}
use Rattle.leg_lib_records.proofs.Scaling.{moved_more}
use Rattle.leg_lib_records.proofs.scale_shapes.rect_at.Goals as goal

pub unwrap-requires : goal.unwrap-requires
unwrap-requires c =
    let s = c.args.shift.now in
    let r = c.args.raw.now in
    let x1 : IsLengthAt c.args.n r.x1 (c.in_ok-x1.x1 -ℤ s.x) = rw (← c.x1.ensures.is) c.in_ok-x1.ensures.ok in
    let x2 : IsLengthAt c.args.n r.x2 (c.in_ok-x2.x2 -ℤ s.x) = rw (← c.x2.ensures.is) c.in_ok-x2.ensures.ok in
    let y1 : IsLengthAt c.args.n r.y1 (c.in_ok-y1.y1 -ℤ s.y) = rw (← c.y1.ensures.is) c.in_ok-y1.ensures.ok in
    let y2 : IsLengthAt c.args.n r.y2 (c.in_ok-y2.y2 -ℤ s.y) = rw (← c.y2.ensures.is) c.in_ok-y2.ensures.ok in
    let wide : c.in_ok-x1.x1 <ℤ c.in_ok-x2.x2 = moved_more c.args.n r.x1 r.x2 c.in_ok-x1.x1 c.in_ok-x2.x2 s.x c.requires.above c.x1.ensures.proper.wide x1 x2 in
    let high : c.in_ok-y1.y1 <ℤ c.in_ok-y2.y2 = moved_more c.args.n r.y1 r.y2 c.in_ok-y1.y1 c.in_ok-y2.y2 s.y c.requires.above c.x1.ensures.proper.high y1 y2 in
    let near_x1 : IsCoordinate c.in_ok-x1.x1 = c.in_ok-x1.ensures.within in
    let near_y1 : IsCoordinate c.in_ok-y1.y1 = c.in_ok-y1.ensures.within in
    let near_x2 : IsCoordinate c.in_ok-x2.x2 = c.in_ok-x2.ensures.within in
    let near_y2 : IsCoordinate c.in_ok-y2.y2 = c.in_ok-y2.ensures.within in
    there_where _ _ _ c.new.ensures (record {
      x1 = omega (arith, ints, near_x1);
      y1 = omega (arith, ints, near_y1);
      x2 = omega (arith, ints, near_x2);
      y2 = omega (arith, ints, near_y2);
      wide = omega (arith, ints, near_x1, near_x2, wide);
      high = omega (arith, ints, near_y1, near_y2, high);
    })
