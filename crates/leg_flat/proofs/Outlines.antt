-- Rectangles of metal stay within the limit of coordinates.
use Rattle.std.proofs.Common.{ℤ, arith}
use Rattle.std.proofs.lemmas.Int.{ints}
use Rattle.leg_lex.specs.Number.{IsNumber}
use Rattle.leg_geom.specs.declared.orient.Orient.{Orient}
use Rattle.leg_geom.specs.declared.orient.Orient.TheVariants.{N, S, W, E, FN, FS, FW, FE}
use Rattle.leg_geom.specs.Plane.{PointModel, RectModel, IsSpot, HasPoint}
use Rattle.leg_geom.specs.Orientation.{placed, StaysWithin}
use Rattle.leg_design_records.specs.WellFormedParts.{IsPosition}
use Rattle.leg_flat.specs.Steps.Bounds.{IsSumWithin, IsDrawnWithin}

-- a point of sums of two numbers
record IsPointWithin (p : PointModel) : Type 0 where
  pub x : IsSumWithin p.x
  pub y : IsSumWithin p.y

drawn_point : (r : RectModel) (p : PointModel) → IsDrawnWithin r → HasPoint r p → IsPointWithin p
drawn_point r p within m = record { x = omega (arith, ints); y = omega (arith, ints) }

placed_point : (o : Orient) (at : PointModel) (w h : ℤ) (p : PointModel) → IsPosition at → IsNumber w → IsNumber h → IsPointWithin p
    → IsSpot (placed at o w h p)
placed_point N at w h p there wide high within = record { x = omega (arith, ints); y = omega (arith, ints) }
placed_point S at w h p there wide high within = record { x = omega (arith, ints); y = omega (arith, ints) }
placed_point W at w h p there wide high within = record { x = omega (arith, ints); y = omega (arith, ints) }
placed_point E at w h p there wide high within = record { x = omega (arith, ints); y = omega (arith, ints) }
placed_point FN at w h p there wide high within = record { x = omega (arith, ints); y = omega (arith, ints) }
placed_point FS at w h p there wide high within = record { x = omega (arith, ints); y = omega (arith, ints) }
placed_point FW at w h p there wide high within = record { x = omega (arith, ints); y = omega (arith, ints) }
placed_point FE at w h p there wide high within = record { x = omega (arith, ints); y = omega (arith, ints) }

-- a rectangle that is drawn in a box stays within the limit once the box is placed
pub StaysWithin-drawn : (o : Orient) (at : PointModel) (w h : ℤ) (r : RectModel) → IsPosition at → IsNumber w → IsNumber h → IsDrawnWithin r
    → StaysWithin (placed at o w h) r
StaysWithin-drawn o at w h r there wide high within p m = placed_point o at w h p there wide high (drawn_point r p within m)
