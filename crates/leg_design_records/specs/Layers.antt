-- What the layers of a library are for (LEF/DEF 5.8, "Layer"; that only routing and cut layers carry metal is lefdef's
-- own rule).
use Rattle.std.specs.Prelude.{ℕ, ℤ, Bool, true, false, Option, None, Some, is_some, slice_get}
use Rattle.leg_lex.specs.Words.{◌>>=◌}
use Rattle.leg_lib_records.specs.declared.records.LayerKind.{LayerKind}
use Rattle.leg_lib_records.specs.declared.records.LayerKind.TheVariants.{Routing, Cut, Other}
use Rattle.leg_lib_records.specs.declared.records.Layer.{Layer}
use Rattle.leg_lib_records.specs.Records.{LibraryModel}

-- the width of the wires on a layer of this kind, if there are wires
abbrev pub wire_width : LayerKind → Option ℤ
wire_width (Routing direction width) = Some width
wire_width Cut = None
wire_width Other = None

abbrev pub is_metal_kind : LayerKind → Bool
is_metal_kind (Routing direction width) = true
is_metal_kind Cut = true
is_metal_kind Other = false

-- the width of the wires on the routing layer of this number
abbrev pub width_of_layer : LibraryModel → ℕ → Option ℤ
width_of_layer library number = slice_get library.layers number >>= λ layer. wire_width layer.kind

abbrev pub is_metal : Option Layer → Bool
is_metal None = false
is_metal (Some layer) = is_metal_kind layer.kind

abbrev pub has_metal : LibraryModel → ℕ → Bool
has_metal library number = is_metal (slice_get library.layers number)

-- wires run on the layer of this number
abbrev pub is_routing : LibraryModel → ℕ → Bool
is_routing library number = is_some (width_of_layer library number)
