-- Which pieces of a net touch, and which are joined (lefdef's own rules).
use Rattle.std.specs.Prelude.{◌≡◌, ◌≢◌, ◌<◌, ℕ, List, length, Option, None, Some, slice_get, Contains}
use Rattle.leg_geom.specs.Plane.{PointModel, HasPoint}
use Rattle.leg_rules.specs.declared.owner.Owner.TheVariants.{Net}
use Rattle.leg_rules.specs.declared.piece.Piece.{Piece}
use Rattle.leg_rules.specs.declared.shape.Shape.{Shape}
use Rattle.leg_rules.specs.Metal.Flat.{FlatModel}

-- how many pieces a net has
abbrev pub piece_count : FlatModel → ℕ → ℕ
piece_count flat net = count (slice_get flat.pieces net) where
  count : Option (List Piece) → ℕ
  count None = 0
  count (Some pieces) = length pieces

-- net n has a piece k, and the shape is metal of it
pub record IsOfPiece (flat : FlatModel) (n k : ℕ) (shape : Shape) : Type 0 where
  pub there : k < piece_count flat n
  pub owner : shape.owner ≡ Net n
  pub piece : shape.piece ≡ Some k

-- the point lies in piece k of net n, on this layer
pub record LiesIn (flat : FlatModel) (n k layer : ℕ) (p : PointModel) : Type 0 where
  pub shape : Shape
  pub has : Contains flat.shapes shape
  pub of_piece : IsOfPiece flat n k shape
  pub on_layer : shape.layer ≡ layer
  pub inside : HasPoint shape.rect p

-- Two pieces of a net touch if on one layer two different points lie in both, whichever of their rectangles hold them.
pub record Touch (flat : FlatModel) (n a b : ℕ) : Type 0 where
  pub layer : ℕ
  pub p : PointModel
  pub q : PointModel
  pub differ : p ≢ q
  pub p_in_a : LiesIn flat n a layer p
  pub p_in_b : LiesIn flat n b layer p
  pub q_in_a : LiesIn flat n a layer q
  pub q_in_b : LiesIn flat n b layer q

-- the least relation that holds of each piece with itself and goes on where pieces touch
pub data Joined (Meet : ℕ → ℕ → Type 0) : ℕ → ℕ → Type 0 where
  itself : {a : ℕ} → Joined Meet a a
  through : {a b c : ℕ} → Joined Meet a b → Meet b c → Joined Meet a c

-- Pieces a and b of net n are joined.
abbrev pub AreJoined : FlatModel → ℕ → ℕ → ℕ → Type 0
AreJoined flat n a b = Joined (Touch flat n) a b
