-- Metal of pieces that meets. The rule of the search needs the two laws after the definition.
use Rattle.std.proofs.Common.{◌≡◌, ◌≢◌, ◌≤◌, sym}
use Rattle.leg_geom.specs.Plane.{SharePoint}
use Rattle.leg_geom.specs.Gap.{x_gap, y_gap}
use Rattle.leg_geom.proofs.Gaps.{SharePoint-symmetric, SharePoint-gaps}
use Rattle.leg_wire.specs.declared.piece_shape.PieceShape.{PieceShape}

-- metal of two pieces that shares a point
pub record DoMeet (a b : PieceShape) : Type 0 where
  pub layer : a.layer ≡ b.layer
  pub others : a.piece ≢ b.piece
  pub shared : SharePoint a.rect b.rect

pub DoMeet-symmetric : (a b : PieceShape) → DoMeet a b → DoMeet b a
DoMeet-symmetric a b h = record {
  layer = sym h.layer;
  others = λ same. h.others (sym same);
  shared = SharePoint-symmetric a.rect b.rect h.shared;
}

pub DoMeet-near : (a b : PieceShape) → DoMeet a b → (x_gap a.rect b.rect ≤ 0) × (y_gap a.rect b.rect ≤ 0)
DoMeet-near a b h = SharePoint-gaps a.rect b.rect h.shared
