-- Good vias by their names and shapes: in millionths of a micron (raw), and in database units (lefdef's own rule).
use Rattle.std.specs.Prelude.{ℕ, pos, Bool, not, ◌&&◌, int_lt, List, map}
use Rattle.leg_geom.specs.Plane.{RectModel}
use Rattle.leg_lib_records.specs.declared.raw.RawKind.{RawKind}
use Rattle.leg_lib_records.specs.declared.raw.RawKind.TheVariants as raw
use Rattle.leg_lib_records.specs.declared.raw.RawLayer.{RawLayer}
use Rattle.leg_lib_records.specs.declared.raw.RawShape.{RawShape}
use Rattle.leg_lib_records.specs.declared.records.LayerKind.{LayerKind}
use Rattle.leg_lib_records.specs.declared.records.LayerKind.TheVariants.{Routing, Cut, Other}
use Rattle.leg_lib_records.specs.declared.records.Layer.{Layer}
use Rattle.leg_lib_records.specs.declared.records.Shape.{Shape}
use Rattle.leg_lib_records.specs.declared.joins.LayerUse.{LayerUse}
use Rattle.leg_lib_records.specs.declared.joins.LayerUse.TheVariants.{Wires, Cuts, Neither}
use Rattle.leg_lib_records.specs.declared.joins.ViaPart.{ViaPart}
use Rattle.leg_lib_records.specs.Records.{LibraryModel}
use Rattle.leg_lib_records.specs.Joins.{is_wiring_word, join_layers}

-- what vias find on layers of this kind
abbrev pub raw_use : RawKind → LayerUse
raw_use (raw.Routing direction width) = Wires
raw_use raw.Cut = Cuts
raw_use raw.Other = Neither

abbrev pub use_of : LayerKind → LayerUse
use_of (Routing direction width) = Wires
use_of Cut = Cuts
use_of Other = Neither

abbrev pub raw_uses : List RawLayer → List LayerUse
raw_uses layers = map (λ layer. raw_use layer.kind) layers

abbrev pub uses_of : List Layer → List LayerUse
uses_of layers = map (λ layer. use_of layer.kind) layers

-- the point 0 0 lies inside the rectangle, and not on its border
abbrev pub holds_origin : RectModel → Bool
holds_origin r = int_lt r.x1 (pos 0) && int_lt (pos 0) r.x2 && int_lt r.y1 (pos 0) && int_lt (pos 0) r.y2

abbrev pub raw_parts : List RawShape → List ViaPart
raw_parts shapes = map (λ shape. record { layer = shape.layer; holds_origin = holds_origin shape.rect }) shapes

abbrev pub parts_of : List Shape → List ViaPart
parts_of shapes = map (λ shape. record { layer = shape.layer; holds_origin = holds_origin shape.rect }) shapes

-- a via of this name with these shapes is good
unfoldable pub is_good_via : LibraryModel → List ℕ → List Shape → Bool
is_good_via library name shapes =
    not (is_wiring_word name) && join_layers (uses_of library.layers) (parts_of shapes)

-- the same of names and shapes as texts write them, over these layers
unfoldable pub is_raw_good_via : List RawLayer → List ℕ → List RawShape → Bool
is_raw_good_via layers name shapes = not (is_wiring_word name) && join_layers (raw_uses layers) (raw_parts shapes)
