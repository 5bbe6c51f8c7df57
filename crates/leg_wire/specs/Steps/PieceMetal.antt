-- The metal of a net's pieces, and which of them touch by it.
use Rattle.std.specs.Prelude.{◌≡◌, ◌≢◌, ◌<◌, ℕ, List, Contains, Some}
use Rattle.leg_geom.specs.Plane.{PointModel, HasPoint}
use Rattle.leg_rules.specs.declared.shape.Shape.{Shape}
use Rattle.leg_wire.specs.declared.piece_shape.PieceShape.{PieceShape}

-- the metal is that of a shape of one of this many pieces
pub record SaysShape (count : ℕ) (shape : Shape) (piece : PieceShape) : Type 0 where
  pub there : piece.piece < count
  pub piece_is : shape.piece ≡ Some piece.piece
  pub layer : piece.layer ≡ shape.layer
  pub rect : piece.rect ≡ shape.rect

-- the point lies in a piece's metal, on this layer
pub record LiesAmong (pieces : List PieceShape) (piece layer : ℕ) (p : PointModel) : Type 0 where
  pub shape : PieceShape
  pub has : Contains pieces shape
  pub of_piece : shape.piece ≡ piece
  pub on_layer : shape.layer ≡ layer
  pub inside : HasPoint shape.rect p

-- two different pieces touch by this metal
pub record TouchAmong (pieces : List PieceShape) (a b : ℕ) : Type 0 where
  pub others : a ≢ b
  pub layer : ℕ
  pub p : PointModel
  pub q : PointModel
  pub differ : p ≢ q
  pub p_in_a : LiesAmong pieces a layer p
  pub p_in_b : LiesAmong pieces b layer p
  pub q_in_a : LiesAmong pieces a layer q
  pub q_in_b : LiesAmong pieces b layer q
