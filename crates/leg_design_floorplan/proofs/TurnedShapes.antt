-- Rectangles that are turned about the point 0 0 stay within the limit of coordinates.
use Rattle.std.proofs.Common.{pos, arith}
use Rattle.std.proofs.lemmas.Int.{ints}
use Rattle.leg_geom.specs.declared.orient.Orient.{Orient}
use Rattle.leg_geom.specs.declared.orient.Orient.TheVariants.{N, S, W, E, FN, FS, FW, FE}
use Rattle.leg_geom.specs.Plane.{PointModel, RectModel, IsSpot, IsRect, HasPoint}
use Rattle.leg_geom.specs.Orientation.{placed, StaysWithin}
use Rattle.leg_grammar.specs.Def.TurnedVia.{origin}

point_of : (r : RectModel) (p : PointModel) → IsRect r → HasPoint r p → IsSpot p
point_of r p is m = record { x = omega (arith, ints); y = omega (arith, ints) }

turned_point : (o : Orient) (p : PointModel) → IsSpot p → IsSpot (placed origin o (pos 0) (pos 0) p)
turned_point N p is = record { x = omega (arith, ints); y = omega (arith, ints) }
turned_point S p is = record { x = omega (arith, ints); y = omega (arith, ints) }
turned_point W p is = record { x = omega (arith, ints); y = omega (arith, ints) }
turned_point E p is = record { x = omega (arith, ints); y = omega (arith, ints) }
turned_point FN p is = record { x = omega (arith, ints); y = omega (arith, ints) }
turned_point FS p is = record { x = omega (arith, ints); y = omega (arith, ints) }
turned_point FW p is = record { x = omega (arith, ints); y = omega (arith, ints) }
turned_point FE p is = record { x = omega (arith, ints); y = omega (arith, ints) }

-- A rectangle stays within the limit when it is turned.
pub turned_within : (o : Orient) (r : RectModel) → IsRect r → StaysWithin (placed origin o (pos 0) (pos 0)) r
turned_within o r is p m = turned_point o p (point_of r p is m)
