use Rattle.std.proofs.Common.{◌≡◌, All, take}
use Rattle.leg_geom.specs.Plane.{IsSpot}
use Rattle.leg_design_common.proofs.polygon.vertices.Given as goal

abbrev pub invariant-points : goal.invariant-points
invariant-points g l = (l.vertices.items ≡ take l.point-index l.points) × All IsSpot l.vertices.items
