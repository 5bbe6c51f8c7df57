-- The shapes of a port or of obstructions (LEF/DEF 5.8, "Layer Geometries"; that only routing and cut
-- layers carry metal is lefdef's own rule).
use Rattle.std.specs.Prelude.{ℕ, ℤ, pos, Bool, true, false, not, ◌&&◌, ◌||◌, if◌then◌else◌, List, [], ◌∷◌, ◌++◌, map, Option, None, Some, unwrap_or, codes, slice_get}
use Rattle.std.specs.List.{list_all}
use Rattle.leg_lex.specs.Words.{Words, ◌>>=◌, is_keyword, is_word, is_at, keyword_at, name_at}
use Rattle.leg_lex.specs.Until.{over}
use Rattle.leg_lex.specs.Statements.{statements_at}
use Rattle.leg_lex.specs.NameLookup.{place_of}
use Rattle.leg_geom.specs.Plane.{PointModel, RectModel}
use Rattle.leg_lib_records.specs.declared.raw.RawKind.{RawKind}
use Rattle.leg_lib_records.specs.declared.raw.RawKind.TheVariants.{Routing, Cut, Other}
use Rattle.leg_lib_records.specs.declared.raw.RawLayer.{RawLayer}
use Rattle.leg_lib_records.specs.declared.raw.RawShape.{RawShape}
use Rattle.leg_lib_records.specs.Records.{RawLibraryModel, raw_layer_names}
use Rattle.leg_grammar.specs.declared.profile.Profile.{Profile}
use Rattle.leg_grammar.specs.declared.profile.Profile.TheVariants.{Narrow, Wide}
use Rattle.leg_grammar.specs.Lef.Point.{rect_in}
use Rattle.leg_grammar.specs.Lef.Polygon.{is_read_polygon, polygon_in}
use Rattle.leg_grammar.specs.Lef.Copies.{is_iterated, copies_in, with_copies}
use Rattle.leg_grammar.specs.Lef.PlacedVia.{is_placed_via, with_placed_via}
use Rattle.leg_grammar.specs.Lef.Path.{is_read_path, path_width, half_of, path_in}
use Rattle.leg_grammar.specs.Lef.Layer.{width_in}

abbrev pub is_routing_kind : RawKind → Bool
is_routing_kind (Routing direction width) = true
is_routing_kind Cut = false
is_routing_kind Other = false

abbrev pub is_cut_kind : RawKind → Bool
is_cut_kind (Routing direction width) = false
is_cut_kind Cut = true
is_cut_kind Other = false

-- the layer of this number is of such a kind
abbrev pub is_layer_of : (RawKind → Bool) → Option RawLayer → Bool
is_layer_of of_kind None = false
is_layer_of of_kind (Some layer) = of_kind layer.kind

abbrev pub draws_metal : List RawLayer → ℕ → Bool
draws_metal layers number = is_layer_of (λ kind. is_routing_kind kind || is_cut_kind kind) (slice_get layers number)

-- what the statements before gave: the layer that they are on, the width of paths where WIDTH gives one, and the shapes
pub record Drawn : Type 0 where
  pub on : Option ℕ
  pub width : Option ℤ
  pub shapes : List RawShape

abbrev pub nothing_drawn : Drawn
nothing_drawn = record { on = None; width = None; shapes = [] }

-- now on another layer, of which WIDTH says nothing yet
abbrev pub on_layer : Drawn → ℕ → Drawn
on_layer drawn number = record { on = Some number; width = None; shapes = drawn.shapes }

-- Whether EXCEPTPGNET, which lets power and ground nets pass, is refused. Where it isn't, its shapes are as all others.
abbrev pub refuses_exceptions : Profile → Bool
refuses_exceptions Narrow = true
refuses_exceptions (Wide masks soft) = false

abbrev pub is_refused_exception : Profile → List ℕ → Bool
is_refused_exception profile word = refuses_exceptions profile && is_keyword (codes "EXCEPTPGNET") word

-- words that may follow a layer's name and have no effect: names and quoted words
abbrev pub says_nothing : Profile → List ℕ → Bool
says_nothing profile word = is_word word && not (is_refused_exception profile word)

-- LAYER NAME words: the number of the layer
unfoldable pub layer_of_geometry : Profile → RawLibraryModel → Words → Option ℕ
layer_of_geometry profile library statement = do
  start ← keyword_at (codes "LAYER") statement
  name ← name_at start.1
  number ← place_of name.0 (raw_layer_names library)
  if list_all (says_nothing profile) name.1 then Some number else None

-- RECT on a layer: a shape where the layer has metal, and else read past
unfoldable pub drawn_rect : Profile → RawLibraryModel → Drawn → Words → Option Drawn
drawn_rect profile library drawn statement = do
  number ← drawn.on
  if draws_metal library.layers number then (do
    rect ← rect_in profile statement
    Some (record drawn { shapes = drawn.shapes ++ record { layer = number; rect = rect } ∷ [] })) else Some drawn

-- rectangles as shapes of a layer
abbrev pub shapes_on : ℕ → List RectModel → List RawShape
shapes_on number rects = map (λ rect. record { layer = number; rect = rect }) rects

-- POLYGON on a layer: its slabs, as shapes, where the layer has metal, and else read past
unfoldable pub drawn_polygon : Profile → RawLibraryModel → Drawn → Words → Option Drawn
drawn_polygon profile library drawn statement = do
  number ← drawn.on
  if draws_metal library.layers number then (do
    slabs ← polygon_in profile statement
    Some (record drawn { shapes = drawn.shapes ++ shapes_on number slabs })) else Some drawn

-- the first of the copies of a figure lies where the figure does
abbrev pub no_way : PointModel
no_way = record { x = pos 0; y = pos 0 }

-- RECT or POLYGON with ITERATE on a layer: all copies, where the layer has metal, and else read past
unfoldable pub drawn_copies : Profile → RawLibraryModel → Drawn → Words → Option Drawn
drawn_copies profile library drawn statement = do
  number ← drawn.on
  if draws_metal library.layers number then (do
    copies ← copies_in profile statement
    shapes ← with_copies (shapes_on number copies.0) copies.1 no_way drawn.shapes
    Some (record drawn { shapes = shapes })) else Some drawn

-- VIA, which needs no layer before it: the via's shapes
unfoldable pub drawn_via : Profile → RawLibraryModel → Drawn → Words → Option Drawn
drawn_via profile library drawn statement = do
  shapes ← with_placed_via profile library drawn.shapes statement
  Some (record drawn { shapes = shapes })

-- the width of a path on the layer of this number
unfoldable pub width_of_path : RawLibraryModel → Option ℤ → ℕ → Option ℤ
width_of_path library written number = do
  layer ← slice_get library.layers number
  path_width written layer.kind

-- PATH on a layer: the rectangles of its lines, as shapes
unfoldable pub drawn_path : Profile → RawLibraryModel → Drawn → Words → Option Drawn
drawn_path profile library drawn statement = do
  number ← drawn.on
  width ← width_of_path library drawn.width number
  half ← half_of width
  rects ← path_in profile half statement
  Some (record drawn { shapes = drawn.shapes ++ shapes_on number rects })

-- the width that WIDTH gives paths: where it is malformed 0, a width that no path has
abbrev pub written_width : Words → ℤ
written_width statement = unwrap_or (width_in statement) (pos 0)

-- the last layer that was named has no metal
abbrev pub is_off_metal : RawLibraryModel → Option ℕ → Bool
is_off_metal library None = false
is_off_metal library (Some number) = not (draws_metal library.layers number)

-- shapes that aren't rectangles
abbrev pub is_other_shape : Words → Bool
is_other_shape statement =
    is_at (codes "POLYGON") statement || is_at (codes "PATH") statement || is_at (codes "VIA") statement

-- one more statement
unfoldable pub geometry_part : Profile → RawLibraryModel → Drawn → Words → Option Drawn
geometry_part profile library drawn statement =
    if is_at (codes "LAYER") statement then (layer_of_geometry profile library statement >>= λ number. Some (on_layer drawn number))
    else (if is_iterated profile statement then drawn_copies profile library drawn statement
    else (if is_at (codes "RECT") statement then drawn_rect profile library drawn statement
    else (if is_at (codes "WIDTH") statement then Some (record drawn { width = Some (written_width statement) })
    else (if is_at (codes "CLASS") statement then Some drawn
    else (if is_read_polygon profile statement then drawn_polygon profile library drawn statement
    else (if is_other_shape statement && is_off_metal library drawn.on then Some drawn
    else (if is_read_path profile statement then drawn_path profile library drawn statement
    else (if is_placed_via profile statement then drawn_via profile library drawn statement else None))))))))

-- the shapes of all statements, up to the END
unfoldable pub geometry_at : Profile → RawLibraryModel → Words → Option (List RawShape × Words)
geometry_at profile library words = do
  body ← statements_at words
  drawn ← over (geometry_part profile library) nothing_drawn body.0
  Some (drawn.shapes, body.1)
