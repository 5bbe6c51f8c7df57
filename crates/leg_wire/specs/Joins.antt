-- What is kept of a net that gets wires: the metal of its pieces, and which of these are joined.
use Rattle.std.specs.Prelude.{◌≡◌, ◌≢◌, ◌↔◌, ◌+◌, ◌<◌, ℕ, Bool, true, List, ◌++◌, length, map, AllPairs, Contains, Some}
use Rattle.leg_rules.specs.declared.owner.Owner.TheVariants.{Net}
use Rattle.leg_rules.specs.declared.shape.Shape.{Shape}
use Rattle.leg_rules.specs.Metal.Flat.{FlatModel}
use Rattle.leg_wire.specs.declared.piece_shape.PieceShape.{PieceShape}
use Rattle.leg_rules.specs.Joins.Touch.{piece_count, IsOfPiece, AreJoined}

-- the metal of a piece of the net is that of the flat's shape
pub record IsPieceShape (flat : FlatModel) (net : ℕ) (shape : Shape) (piece : PieceShape) : Type 0 where
  pub of_piece : IsOfPiece flat net piece.piece shape
  pub layer : piece.layer ≡ shape.layer
  pub rect : piece.rect ≡ shape.rect

-- the metal of the net's pieces
pub record ArePieceShapes (flat : FlatModel) (net : ℕ) (pieces : List PieceShape) : Type 0 where
  pub each : (piece : PieceShape) → Contains pieces piece → (shape : Shape) × Contains flat.shapes shape × IsPieceShape flat net shape piece
  pub all : (shape : Shape) (piece : PieceShape) → Contains flat.shapes shape → IsPieceShape flat net shape piece → Contains pieces piece

-- the metal of a net's pieces, the sets of those that are joined, whether all metal of the net is that of its pieces, and which of the pieces that
-- are joined to the first one were given
pub record JoinsModel : Type 0 where
  pub net : ℕ
  pub is_whole : Bool
  pub metal : List PieceShape
  pub sets : List ℕ
  pub given : List ℕ

-- each shape of the net is metal of one of its pieces
abbrev pub IsWholeNet : FlatModel → ℕ → Type 0
IsWholeNet flat net =
    (shape : Shape) (piece : ℕ) → Contains flat.shapes shape → shape.owner ≡ Net net → shape.piece ≡ Some piece → piece < piece_count flat net

-- this is kept of a net of the flat
pub record AreJoinsOf (flat : FlatModel) (joins : JoinsModel) : Type 0 where
  pub count : length joins.sets ≡ piece_count flat joins.net
  pub metal : ArePieceShapes flat joins.net joins.metal
  pub whole : joins.is_whole ≡ true → IsWholeNet flat joins.net

-- shapes as metal of the piece of this number
abbrev pub metal_of_piece : ℕ → List Shape → List PieceShape
metal_of_piece piece shapes = map (λ shape. record { piece = piece; layer = shape.layer; rect = shape.rect }) shapes

-- there is one piece more, of these shapes
pub record HasOnePieceMore (before : JoinsModel) (shapes : List Shape) (after : JoinsModel) : Type 0 where
  pub net : after.net ≡ before.net
  pub is_whole : after.is_whole ≡ before.is_whole
  pub metal : after.metal ≡ before.metal ++ metal_of_piece (length before.sets) shapes
  pub count : length after.sets ≡ length before.sets + 1
  pub given : after.given ≡ before.given

-- the piece is joined to the net's first one, and was not given
pub record IsNewlyJoined (flat : FlatModel) (joins : JoinsModel) (piece : ℕ) : Type 0 where
  pub within : piece < piece_count flat joins.net
  pub joined : AreJoined flat joins.net 0 piece
  pub is_new : ¬ Contains joins.given piece

-- exactly these pieces, each once
pub record AreNewlyJoined (flat : FlatModel) (joins : JoinsModel) (pieces : List ℕ) : Type 0 where
  pub are : (piece : ℕ) → Contains pieces piece ↔ IsNewlyJoined flat joins piece
  pub once : AllPairs (λ j k. j ≢ k) pieces

-- the same joins, of which these pieces more were given
pub record HasGiven (before : JoinsModel) (pieces : List ℕ) (after : JoinsModel) : Type 0 where
  pub net : after.net ≡ before.net
  pub is_whole : after.is_whole ≡ before.is_whole
  pub metal : after.metal ≡ before.metal
  pub sets : after.sets ≡ before.sets
  pub given : after.given ≡ before.given ++ pieces
