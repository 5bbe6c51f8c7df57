-- A flat design: the metal of a design as rectangles, and the pieces of its nets.
use Rattle.std.specs.Prelude.{◌≡◌, ◌↔◌, ℕ, ◌+◌, ◌≤◌, List, ◌++◌, length, map}
use Rattle.std.specs.List.{range_with_len}
use Rattle.leg_geom.specs.Plane.{PointModel, IsRect, HasPoint}
use Rattle.leg_lib_records.specs.Scale.{OneForOne}
use Rattle.leg_design_records.specs.declared.limits.TheConstants.{PART_LIMIT}
use Rattle.leg_design_records.specs.Records.{DesignModel}
use Rattle.leg_design_records.specs.declared.records.Terminal.{Terminal}
use Rattle.leg_rules.specs.declared.piece.Piece.{Piece}
use Rattle.leg_rules.specs.declared.piece.Piece.TheVariants.{Term, Wire}
use Rattle.leg_rules.specs.declared.shape.Shape.{Shape}
use Rattle.leg_rules.specs.Metal.Nets.{pieces_of}
use Rattle.leg_rules.specs.Metal.Outline.{HasPointOf}
use Rattle.leg_rules.specs.Metal.Metal.{Metal, metal_of}

-- shapes, and the pieces of each net by its number
pub record FlatModel : Type 0 where
  pub shapes : List Shape
  pub pieces : List (List Piece)

-- these terminals, and then this many wires by their numbers
abbrev pub pieces_with : List Terminal → ℕ → List Piece
pieces_with terminals wires = map Term terminals ++ map Wire (range_with_len 0 wires)

-- the shape is a rectangle with area that has exactly the points of the metal, and its layer, owner, component and piece
pub record IsShapeOf (metal : Metal) (shape : Shape) : Type 0 where
  pub layer : shape.layer ≡ metal.metal.layer
  pub proper : IsRect shape.rect
  pub points : (p : PointModel) → HasPoint shape.rect p ↔ HasPointOf metal.metal.outline p
  pub owner : shape.owner ≡ metal.belongs.owner
  pub component : shape.component ≡ metal.belongs.component
  pub piece : shape.piece ≡ metal.belongs.piece

-- This is the design's metal, shape for shape, and these are the pieces of its nets: numbers of nets lie below those of
-- the entries of NETS and SPECIALNETS together.
pub record IsFlatOf (design : DesignModel) (flat : FlatModel) : Type 0 where
  pub shapes : OneForOne IsShapeOf (metal_of design) flat.shapes
  pub pieces : flat.pieces ≡ map (pieces_of design) (range_with_len 0 (length design.nets + length design.special))

-- A design is judged by its flat, where its metal keeps the limit of shapes.
pub record IsJudgedBy (design : DesignModel) (flat : FlatModel) : Type 0 where
  pub few : length (metal_of design) ≤ PART_LIMIT
  pub is_flat : IsFlatOf design flat
