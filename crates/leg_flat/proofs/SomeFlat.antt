-- A well-formed design has a flat: its metal is rectangles, shape for shape.
use Rattle.std.proofs.Common.{List, [], ◌∷◌, All, length, map, refl, ◌+◌}
use Rattle.std.specs.List.{range_with_len}
use Rattle.std.proofs.lemmas.List.Elements.{All-head, All-tail}
use Rattle.leg_lib_records.specs.Scale.{OneForOne}
use Rattle.leg_lib_records.specs.Sound.{IsSound}
use Rattle.leg_design_records.specs.Records.{DesignModel}
use Rattle.leg_design_records.specs.WellFormed.{IsWellFormed}
use Rattle.leg_rules.specs.declared.shape.Shape.{Shape}
use Rattle.leg_rules.specs.Metal.Metal.{Metal, metal_of}
use Rattle.leg_rules.specs.Metal.Nets.{pieces_of}
use Rattle.leg_rules.specs.Metal.Flat.{FlatModel, IsShapeOf, IsFlatOf}
use Rattle.leg_flat.specs.ProperLibrary.{IsProperLibrary}
use Rattle.leg_flat.proofs.OutlineRects.{ArePlacedImages}
use Rattle.leg_flat.proofs.MetalRects.{IsRectMetal, metal_rects}

abbrev shape_of : (metal : Metal) → IsRectMetal metal → Shape
shape_of metal is = record {
  layer = metal.metal.layer;
  rect = is.rect;
  owner = metal.belongs.owner;
  component = metal.belongs.component;
  piece = metal.belongs.piece;
}

shape_is : (metal : Metal) (is : IsRectMetal metal) → IsShapeOf metal (shape_of metal is)
shape_is metal is = record { layer = refl; proper = is.proper; points = is.points; owner = refl; component = refl; piece = refl }

-- shapes for metal, one for one
record HasShapes (metal : List Metal) : Type 0 where
  pub shapes : List Shape
  pub each : OneForOne IsShapeOf metal shapes

shapes_for : (metal : List Metal) → All IsRectMetal metal → HasShapes metal
shapes_for [] all = record { shapes = []; each = tt }
shapes_for (m ∷ metal) all =
    let first = All-head IsRectMetal m metal all in
    let rest = shapes_for metal (All-tail IsRectMetal m metal all) in
    record { shapes = shape_of m first ∷ rest.shapes; each = (shape_is m first, rest.each) }

pub some_flat : ArePlacedImages → (design : DesignModel) → IsSound design.library → IsProperLibrary design.library → IsWellFormed design
    → (flat : FlatModel) × IsFlatOf design flat
some_flat images design sound proper well =
    let has = shapes_for (metal_of design) (metal_rects images design sound proper well) in (
      record { shapes = has.shapes; pieces = map (pieces_of design) (range_with_len 0 (length design.nets + length design.special)) },
      record { shapes = has.each; pieces = refl },
    )
