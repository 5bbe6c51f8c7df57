use Rattle.std.proofs.Common.{rules, int_le}
use Rattle.std.proofs.lemmas.List.Sorted.{IsPartitionPoint-from_clause}
use Rattle.leg_geom.specs.Plane.{PointModel}
use Rattle.leg_polygon.proofs.SideEnds.{climb_partitioned, points_upto, points_above}
use Rattle.leg_polygon.proofs.side_end.count_upto.Goals as goal

pub returns-clause-upto : goal.returns-clause-upto
returns-clause-upto c =
    let points = c.args.points.now in
    points_upto points c.args.line c.partition_point.result
    (IsPartitionPoint-from_clause (λ (p : PointModel). int_le p.y c.args.line) points _ c.partition_point.ensures.partitioned
    (climb_partitioned points c.args.line c.requires) (λ a r q called. search rules))

pub returns-clause-above : goal.returns-clause-above
returns-clause-above c =
    let points = c.args.points.now in
    points_above points c.args.line c.partition_point.result
    (IsPartitionPoint-from_clause (λ (p : PointModel). int_le p.y c.args.line) points _ c.partition_point.ensures.partitioned
    (climb_partitioned points c.args.line c.requires) (λ a r q called. search rules))
