-- Generated vias of a LEF (LEF/DEF 5.8, "Via", VIARULE; that the layers of its plates are routing layers, and that of its cuts is a cut layer, is
-- lefdef's own rule).
use Rattle.std.specs.Prelude.{ℕ, Bool, ◌&&◌, List, map, Option, Some, codes, slice_get}
use Rattle.std.specs.List.{list_any}
use Rattle.leg_lex.specs.Words.{Words, ◌>>=◌, name_at, nothing_at}
use Rattle.leg_lex.specs.NameLookup.{place_of}
use Rattle.leg_lib_records.specs.declared.records.Shape.{Shape}
use Rattle.leg_lib_records.specs.declared.raw.RawShape.{RawShape}
use Rattle.leg_lib_records.specs.Records.{RawLibraryModel, raw_layer_names}
use Rattle.leg_grammar.specs.declared.generated_via.ViaNumbers.TheVariants.{Microns}
use Rattle.leg_grammar.specs.declared.generated_via.ViaLayers.{ViaLayers}
use Rattle.leg_grammar.specs.declared.generated_via.GeneratedVia.{GeneratedVia}
use Rattle.leg_grammar.specs.Def.Guard.{when, unless}
use Rattle.leg_grammar.specs.Def.GeneratedVia.{is_drawn, after_keyword, rule_in, via_between}
use Rattle.leg_grammar.specs.Def.CutPattern.{pattern_in}
use Rattle.leg_grammar.specs.Def.CutArray.{array_shapes}
use Rattle.leg_grammar.specs.Lef.Geometry.{is_routing_kind, is_cut_kind, is_layer_of}

-- a layer of the library, by its number
unfoldable pub raw_layer_at : RawLibraryModel → Words → Option (ℕ × Words)
raw_layer_at library words = do
  name ← name_at words
  number ← place_of name.0 (raw_layer_names library)
  Some (number, name.1)

-- three layers
unfoldable pub raw_layers_at : RawLibraryModel → Words → Option (ViaLayers × Words)
raw_layers_at library words = do
  low ← raw_layer_at library words
  cut ← raw_layer_at library low.1
  high ← raw_layer_at library cut.1
  Some (record { low = low.0; cut = cut.0; high = high.0 }, high.1)

-- wires run on the layers of the plates, and that of the cuts is one of cuts
abbrev pub are_via_kinds : RawLibraryModel → ViaLayers → Bool
are_via_kinds library layers =
    is_layer_of is_routing_kind (slice_get library.layers layers.low) && is_layer_of is_cut_kind (slice_get library.layers layers.cut)
    && is_layer_of is_routing_kind (slice_get library.layers layers.high)

-- LAYERS low cut high
unfoldable pub raw_via_layers_in : RawLibraryModel → List Words → Option ViaLayers
raw_via_layers_in library statements = do
  words ← after_keyword (codes "LAYERS") statements
  layers ← raw_layers_at library words
  end ← nothing_at layers.1
  kinds ← when (are_via_kinds library layers.0)
  Some layers.0

-- what the statements say of the plates and the cuts, in millionths of a micron
unfoldable pub raw_generated_in : RawLibraryModel → List Words → Option GeneratedVia
raw_generated_in library statements = do
  rule ← rule_in statements
  layers ← raw_via_layers_in library statements
  via_between Microns layers statements

-- rectangles in millionths of a micron
abbrev pub raw_shapes : List Shape → List RawShape
raw_shapes shapes = map (λ shape. record { layer = shape.layer; rect = shape.rect }) shapes

-- the shapes that the statements of a generated via say
unfoldable pub raw_generated_shapes : RawLibraryModel → List Words → Option (List RawShape)
raw_generated_shapes library statements = do
  none ← unless (list_any is_drawn statements)
  via ← raw_generated_in library statements
  pattern ← pattern_in statements
  shapes ← array_shapes pattern via
  Some (raw_shapes shapes)
