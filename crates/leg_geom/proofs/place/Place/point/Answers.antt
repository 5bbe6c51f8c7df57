use Rattle.std.proofs.Common.{◌≡◌, ◌≤◌, ◌*◌, ℤ, ◌+ℤ◌, unsigned_abs, FitsSigned, w64, to_z, of_z, ap, arith}
use Rattle.std.proofs.lemmas.Int.{ints, to_z-of_z, fits_signed_from_abs}
use Rattle.leg_geom.specs.declared.limits.TheConstants.{COORDINATE_LIMIT}
use Rattle.leg_geom.specs.Plane.{PointModel, IsCoordinate}
use Rattle.leg_geom.specs.Orientation.{turned}
use Rattle.leg_geom.proofs.Points.{same_spot}
use Rattle.leg_geom.proofs.place.Place.point.Goals as goal

-- what is added to a coordinate, where the sum is within the limit
added_within : (a b : ℤ) → IsCoordinate a → IsCoordinate (a +ℤ b) → unsigned_abs b ≤ 2 * COORDINATE_LIMIT
added_within a b la lm = omega (arith, ints)

-- the machine's sum of two numbers, by the numbers
moved_is : (l t a b : ℤ) → l ≡ a → t ≡ b → IsCoordinate a → IsCoordinate (a +ℤ b) → to_z w64 (of_z w64 l) +ℤ to_z w64 (of_z w64 t) ≡ a +ℤ b
moved_is l t a b el et la lm =
    let small = added_within a b la lm in
    let fa : FitsSigned w64 a = fits_signed_from_abs w64 a (omega arith) in
    let fb : FitsSigned w64 b = fits_signed_from_abs w64 b (omega arith) in
    rw (el, et, to_z-of_z w64 a fa, to_z-of_z w64 b fb)

moved_fits : (l t a b : ℤ) → l ≡ a → t ≡ b → IsCoordinate a → IsCoordinate (a +ℤ b) → FitsSigned w64 (to_z w64 (of_z w64 l) +ℤ to_z w64 (of_z w64 t))
moved_fits l t a b el et la lm = rw (moved_is l t a b el et la lm) (fits_signed_from_abs w64 (a +ℤ b) (omega arith))

moved_within : (l t a b : ℤ) → l ≡ a → t ≡ b → IsCoordinate a → IsCoordinate (a +ℤ b)
    → IsCoordinate (to_z w64 (of_z w64 (to_z w64 (of_z w64 l) +ℤ to_z w64 (of_z w64 t))))
moved_within l t a b el et la lm = rw (to_z-of_z w64 _ (moved_fits l t a b el et la lm), moved_is l t a b el et la lm) lm

pub turned-x-requires-clause-x : goal.turned-x-requires-clause-x
turned-x-requires-clause-x c =
    let place = c.args.self.now in
    rw (to_z-of_z w64 c.args.width c.ranges.width, to_z-of_z w64 c.args.height c.ranges.height)
    (added_within place.at.x (turned place.orient c.args.width c.args.height c.args.point.now).x c.x-left.ensures.within.x c.requires.x)

pub turned-x-requires-clause-y : goal.turned-x-requires-clause-y
turned-x-requires-clause-y c =
    let place = c.args.self.now in
    rw (to_z-of_z w64 c.args.width c.ranges.width, to_z-of_z w64 c.args.height c.ranges.height)
    (added_within place.at.y (turned place.orient c.args.width c.args.height c.args.point.now).y c.x-left.ensures.within.y c.requires.y)

pub overflow_add-left : goal.overflow_add-left
overflow_add-left c =
    let width = to_z-of_z w64 c.args.width c.ranges.width in
    let height = to_z-of_z w64 c.args.height c.ranges.height in
    let x = rw (width, height) at c.turned-x.ensures.x in
    let place = c.args.self.now in
    moved_fits _ _ place.at.x (turned place.orient c.args.width c.args.height c.args.point.now).x c.x-left.ensures.is x c.x-left.ensures.within.x c.requires.x

pub overflow_add-bottom : goal.overflow_add-bottom
overflow_add-bottom c =
    let width = to_z-of_z w64 c.args.width c.ranges.width in
    let height = to_z-of_z w64 c.args.height c.ranges.height in
    let y = rw (width, height) at c.turned-x.ensures.y in
    let place = c.args.self.now in
    moved_fits _ _ place.at.y (turned place.orient c.args.width c.args.height c.args.point.now).y c.y-bottom.ensures.is y c.x-left.ensures.within.y c.requires.y

pub known-requires : goal.known-requires
known-requires c =
    let width = to_z-of_z w64 c.args.width c.ranges.width in
    let height = to_z-of_z w64 c.args.height c.ranges.height in
    let x = rw (width, height) at c.turned-x.ensures.x in
    let y = rw (width, height) at c.turned-x.ensures.y in
    let place = c.args.self.now in
    record {
      x = moved_within c.x-left.result c.turned-x.result.0 place.at.x
          (turned place.orient c.args.width c.args.height c.args.point.now).x c.x-left.ensures.is x c.x-left.ensures.within.x c.requires.x;
      y = moved_within c.y-bottom.result c.turned-x.result.1 place.at.y
          (turned place.orient c.args.width c.args.height c.args.point.now).y c.y-bottom.ensures.is y c.x-left.ensures.within.y c.requires.y;
    }

pub returns : goal.returns
returns c =
    let width = to_z-of_z w64 c.args.width c.ranges.width in
    let height = to_z-of_z w64 c.args.height c.ranges.height in
    let turned_x = rw (width, height) at c.turned-x.ensures.x in
    let turned_y = rw (width, height) at c.turned-x.ensures.y in
    let x = ap (λ (s : PointModel). s.x) c.known.ensures in
    let y = ap (λ (s : PointModel). s.y) c.known.ensures in
    same_spot _ _ _ _ (omega (arith, ints)) (omega (arith, ints))
