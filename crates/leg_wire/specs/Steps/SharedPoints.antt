-- The single points that pieces were seen to share.
use Rattle.std.specs.Prelude.{◌≡◌, ◌==◌, min, max, ℤ, Bool, true, false, ◌&&◌, List, Option, Some, ◌⊎◌}
use Rattle.std.specs.Map.{lookup}
use Rattle.leg_geom.specs.Plane.{PointModel, RectModel, HasPoint}
use Rattle.leg_wire.specs.declared.corner.Beside.{Beside}
use Rattle.leg_wire.specs.declared.piece_shape.PieceShape.{PieceShape}

-- the same pieces, and the same layer
abbrev pub are_same_pieces : Beside → Beside → Bool
are_same_pieces a b = (a.low == b.low) && (a.high == b.high) && (a.layer == b.layer)

-- the first point that was seen for these
abbrev pub first_seen : List (Beside × (ℤ × ℤ)) → Beside → Option (ℤ × ℤ)
first_seen seen pieces = lookup (are_same_pieces pieces) seen

-- the pieces of two rectangles, and the layer of the first
abbrev pub pieces_beside : PieceShape → PieceShape → Beside
pieces_beside a b = record { low = min a.piece b.piece; high = max a.piece b.piece; layer = a.layer }

-- the point with these coordinates
abbrev pub spot_of : ℤ × ℤ → PointModel
spot_of point = record { x = point.0; y = point.1 }

-- the point lies in both rectangles
pub record IsShared (a b : RectModel) (p : PointModel) : Type 0 where
  pub in_a : HasPoint a p
  pub in_b : HasPoint b p

-- the point lies in both rectangles, and no other one does
pub record IsOnlyShared (a b : RectModel) (p : PointModel) : Type 0 where
  pub shared : IsShared a b p
  pub only : (q : PointModel) → IsShared a b q → q ≡ p

-- The points that were seen before and after two rectangles share a single point, and whether another one is the first
-- of their pieces.
pub record IsPointSeen (before after : List (Beside × (ℤ × ℤ))) (a b : PieceShape) (other : Bool) : Type 0 where
  pub first : ℤ × ℤ
  pub there : first_seen after (pieces_beside a b) ≡ Some first
  pub kept : (pieces : Beside) (point : ℤ × ℤ) → first_seen before pieces ≡ Some point → first_seen after pieces ≡ Some point
  pub new : (pieces : Beside) (point : ℤ × ℤ) → first_seen after pieces ≡ Some point
      → (first_seen before pieces ≡ Some point) ⊎ ((pieces ≡ pieces_beside a b) × IsShared a.rect b.rect (spot_of point))
  pub same : other ≡ false → IsOnlyShared a.rect b.rect (spot_of first)
  pub differs : other ≡ true → IsShared a.rect b.rect (spot_of first) → ⊥
