-- Which shapes are metal of wires, and of segments (lefdef's own rules).
use Rattle.std.specs.Prelude.{◌≡◌, ℕ, List, Some, slice_get}
use Rattle.leg_design_records.specs.declared.records.Wire as records
use Rattle.leg_design_records.specs.declared.records.Wire.TheVariants.{Segment, ViaAt, Patch}
use Rattle.leg_design_records.specs.Records.{DesignModel}
use Rattle.leg_rules.specs.declared.owner.Owner.TheVariants.{Net}
use Rattle.leg_rules.specs.declared.piece.Piece.{Piece}
use Rattle.leg_rules.specs.declared.piece.Piece.TheVariants.{Wire}
use Rattle.leg_rules.specs.declared.shape.Shape.{Shape}
use Rattle.leg_rules.specs.Metal.Flat.{FlatModel}
use Rattle.leg_rules.specs.Metal.Nets.{wires_of}

-- the shape is metal of wire w of net n
pub record IsOfWireOf (flat : FlatModel) (n w : ℕ) (shape : Shape) : Type 0 where
  pub pieces : List Piece
  pub piece : ℕ
  pub owner : shape.owner ≡ Net n
  pub numbered : shape.piece ≡ Some piece
  pub has_net : slice_get flat.pieces n ≡ Some pieces
  pub has_piece : slice_get pieces piece ≡ Some (Wire w)

-- the shape is metal of a wire
abbrev pub IsOfWire : FlatModel → Shape → Type 0
IsOfWire flat shape = (n : ℕ) × (w : ℕ) × IsOfWireOf flat n w shape

abbrev pub IsSegment : records.Wire → Type 0
IsSegment (Segment layer from to width ext_from ext_to) = Unit {0}
IsSegment (ViaAt number at) = ⊥
IsSegment (Patch layer at rect) = ⊥

-- the shape is a segment
pub record IsOfSegment (design : DesignModel) (flat : FlatModel) (shape : Shape) : Type 0 where
  pub net : ℕ
  pub number : ℕ
  pub wire : records.Wire
  pub of_wire : IsOfWireOf flat net number shape
  pub has_wire : slice_get (wires_of design net) number ≡ Some wire
  pub segment : IsSegment wire
