-- How far apart shapes of one layer have to lie (LEF/DEF 5.8, "Layer (Routing)", "Layer (Cut)", on SPACING).
use Rattle.std.specs.Prelude.{ℕ, Option, None, Some, slice_get, unsigned_abs}
use Rattle.leg_lib_records.specs.declared.records.Layer.{Layer}
use Rattle.leg_lib_records.specs.Records.{LibraryModel}
use Rattle.leg_rules.specs.declared.shape.Shape.{Shape}

-- the SPACING of a layer, which is never below 0
abbrev layer_spacing : Option Layer → ℕ
layer_spacing None = 0
layer_spacing (Some layer) = unsigned_abs layer.spacing

-- No two shapes on the layer of this number have to lie farther apart than this; 0 where there is no such layer.
unfoldable pub greatest_spacing_on : LibraryModel → ℕ → ℕ
greatest_spacing_on library number = layer_spacing (slice_get library.layers number)

-- Two shapes of one layer that share no point have to lie this far apart at least: the SPACING of the layer, whatever the shapes are.
unfoldable pub required_spacing : LibraryModel → Shape → Shape → ℕ
required_spacing library a b = layer_spacing (slice_get library.layers a.layer)
