-- The wires that nodes and steps of the grid add (lefdef's own rules): each is given as a wire of NETS.
use Rattle.std.specs.Prelude.{◌≤◌, unsigned_abs}
use Rattle.leg_lex.specs.declared.limits.TheConstants.{NUMBER_LIMIT}
use Rattle.leg_geom.specs.Plane.{RectModel}

-- all sides are numbers that a DEF may have, so that the rectangle can be moved to any point of a design
pub record IsSmallRect (r : RectModel) : Type 0 where
  pub x1 : unsigned_abs r.x1 ≤ NUMBER_LIMIT
  pub y1 : unsigned_abs r.y1 ≤ NUMBER_LIMIT
  pub x2 : unsigned_abs r.x2 ≤ NUMBER_LIMIT
  pub y2 : unsigned_abs r.y2 ≤ NUMBER_LIMIT
