-- Rectangles by their sides: whether two of them share a unit square, and whether one has all unit squares of another.
use Rattle.std.proofs.Common.{◌<ℤ◌, ◌≤ℤ◌, pos, ◌-ℤ◌, arith}
use Rattle.std.specs.Int.{int_max}
use Rattle.std.proofs.lemmas.Int.{ints, clamps}
use Rattle.leg_geom.specs.Plane.{RectModel, ShareSquare}
use Rattle.leg_lib_records.specs.Measure.{IsProper}
use Rattle.leg_rules.specs.Legalise.Clear.{HasAllSquares}

-- each of the two begins before the other one ends, along both axes
pub record DoOverlap (a b : RectModel) : Type 0 where
  pub left : a.x1 <ℤ b.x2
  pub right : b.x1 <ℤ a.x2
  pub bottom : a.y1 <ℤ b.y2
  pub top : b.y1 <ℤ a.y2

pub overlap_from_shared : (a b : RectModel) → ShareSquare a b → DoOverlap a b
overlap_from_shared a b shared = record {
  left = omega (arith, ints, shared.in_a.left, shared.in_b.right);
  right = omega (arith, ints, shared.in_b.left, shared.in_a.right);
  bottom = omega (arith, ints, shared.in_a.bottom, shared.in_b.top);
  top = omega (arith, ints, shared.in_b.bottom, shared.in_a.top);
}

-- the lower left corner of what they have in common
pub shared_from_overlap : (a b : RectModel) → IsProper a → IsProper b → DoOverlap a b → ShareSquare a b
shared_from_overlap a b is_a is_b overlap = record {
  square = record { x = int_max a.x1 b.x1; y = int_max a.y1 b.y1 };
  in_a = record {
    left = omega (arith, ints, clamps);
    right = omega (arith, ints, clamps, is_a.wide, overlap.right);
    bottom = omega (arith, ints, clamps);
    top = omega (arith, ints, clamps, is_a.high, overlap.top);
  };
  in_b = record {
    left = omega (arith, ints, clamps);
    right = omega (arith, ints, clamps, is_b.wide, overlap.left);
    bottom = omega (arith, ints, clamps);
    top = omega (arith, ints, clamps, is_b.high, overlap.bottom);
  };
}

-- the box lies within the sides of the die
pub record IsBounded (die box : RectModel) : Type 0 where
  pub left : die.x1 ≤ℤ box.x1
  pub right : box.x2 ≤ℤ die.x2
  pub bottom : die.y1 ≤ℤ box.y1
  pub top : box.y2 ≤ℤ die.y2

pub all_squares_from_bounds : (die box : RectModel) → IsBounded die box → HasAllSquares die box
all_squares_from_bounds die box bounds square c = record {
  left = omega (arith, ints, bounds.left, c.left);
  right = omega (arith, ints, bounds.right, c.right);
  bottom = omega (arith, ints, bounds.bottom, c.bottom);
  top = omega (arith, ints, bounds.top, c.top);
}

-- by the unit squares at its lower left and its upper right corner
pub bounds_from_all_squares : (die box : RectModel) → IsProper box → HasAllSquares die box → IsBounded die box
bounds_from_all_squares die box proper all =
    let low =
    all (record { x = box.x1; y = box.y1 })
    (record { left = omega (arith, ints); right = proper.wide; bottom = omega (arith, ints); top = proper.high }) in
    let high =
    all (record { x = box.x2 -ℤ pos 1; y = box.y2 -ℤ pos 1 })
    (record {
      left = omega (arith, ints, proper.wide);
      right = omega (arith, ints);
      bottom = omega (arith, ints, proper.high);
      top = omega (arith, ints);
    }) in
    record {
      left = low.left;
      right = omega (arith, ints, high.right);
      bottom = low.bottom;
      top = omega (arith, ints, high.top);
    }
