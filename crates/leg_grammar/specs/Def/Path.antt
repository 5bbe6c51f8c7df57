-- The wires that a path denotes (LEF/DEF 5.8, "Regular Wiring Statement", "Special Wiring Statement"; which extension
-- holds, and which vias and widths are taken, are lefdef's own rules).
use Rattle.std.specs.Prelude.{ℕ, ℤ, pos, Bool, not, ◌&&◌, ◌==◌, ◌+ℤ◌, ◌-ℤ◌, int_lt, if◌then◌else◌, List, [], ◌∷◌, ◌++◌, Option, None, Some, unwrap_or}
use Rattle.std.specs.Ordering.{int_eq}
use Rattle.std.specs.List.{find, list_any}
use Rattle.leg_lex.specs.Words.{◌>>=◌}
use Rattle.leg_geom.specs.Plane.{PointModel, RectModel, halfway}
use Rattle.leg_lib_records.specs.declared.records.Shape.{Shape}
use Rattle.leg_lib_records.specs.Records.{LibraryModel}
use Rattle.leg_grammar.specs.declared.path_item.Item.{Item}
use Rattle.leg_grammar.specs.declared.path_item.Item.TheVariants.{ToPoint, ToVirtual, AtVia, AtArray, AtRect}
use Rattle.leg_grammar.specs.declared.path_width.PathWidth.{PathWidth}
use Rattle.leg_grammar.specs.declared.path_width.PathWidth.TheVariants.{OfLayers, OfRule, Written}
use Rattle.leg_design_records.specs.declared.records.Wire.{Wire}
use Rattle.leg_design_records.specs.declared.records.Wire.TheVariants.{Segment, ViaAt, Patch}
use Rattle.leg_grammar.specs.Def.Guard.{when, unless, is_within}
use Rattle.leg_design_records.specs.Layers.{width_of_layer, is_routing}
use Rattle.leg_design_records.specs.Wires.{is_straight, is_even, default_extension}
use Rattle.leg_grammar.specs.Def.Rule.{width_in}
use Rattle.leg_grammar.specs.Def.CutArray.{area_of}
use Rattle.leg_grammar.specs.Def.NetScope.{NetScopeModel, via_numbered, rule_numbered}
use Rattle.leg_grammar.specs.Def.ViaArray.{array_vias}

-- An item of a path leads to a point, of which a coordinate that isn't written is that of the point before, with an
-- extension where one is written; or to a virtual point, to which no metal leads; or it is a via, by its number, or an array
-- of one; or a rectangle about the point.

-- the point to which an item leads from this one
abbrev pub next_spot : PointModel → Option ℤ → Option ℤ → PointModel
next_spot at x y = record { x = unwrap_or x at.x; y = unwrap_or y at.y }

abbrev pub is_same_spot : PointModel → PointModel → Bool
is_same_spot p q = int_eq p.x q.x && int_eq p.y q.y

-- an extension that is given replaces the one before
abbrev pub last_given : Option ℤ → Option ℤ → Option ℤ
last_given before None = before
last_given before (Some extension) = Some extension

-- A path stays at a point while its items are vias, rectangles and the same point again. The extension that is given
-- last meanwhile is that of the point: it holds for both segments that meet there, on both sides of a via too. A virtual
-- point leaves it as the path's end does.
unfoldable pub extension_at : PointModel → Option ℤ → List Item → Option ℤ
extension_at at given [] = given
extension_at at given (ToPoint x y extension ∷ items) =
    if is_same_spot at (next_spot at x y) then extension_at at (last_given given extension) items else given
extension_at at given (ToVirtual x y ∷ items) = given
extension_at at given (AtVia via ∷ items) = extension_at at given items
extension_at at given (AtArray via array ∷ items) = extension_at at given items
extension_at at given (AtRect rect ∷ items) = extension_at at given items

-- The width of a segment on a routing layer: in NETS, without a rule, that of the layer's wires; in SPECIALNETS the width that
-- is written, which isn't 0.
unfoldable pub segment_width : LibraryModel → Option ℤ → ℕ → Option ℤ
segment_width library None layer = width_of_layer library layer
segment_width library (Some width) layer = unless (int_eq width (pos 0)) >>= λ _. Some width

-- the segment of a step from one point to another, each with its extension
unfoldable pub plain_segment : LibraryModel → Option ℤ → ℕ → PointModel → Option ℤ → PointModel → Option ℤ → Option Wire
plain_segment library written layer at extension to extension_there = do
  straight ← when (is_straight at to)
  width ← segment_width library written layer
  Some (Segment layer at to width
      (unwrap_or extension (default_extension library written layer))
      (unwrap_or extension_there (default_extension library written layer)))

-- The width that a rule gives wires on a layer, where it isn't the width of the layer.
unfoldable pub other_width : NetScopeModel → ℕ → ℕ → Option ℤ
other_width scope number layer = do
  rule ← rule_numbered scope number
  width ← width_in rule.widths layer
  other ← unless (int_eq width (unwrap_or (width_of_layer scope.library layer) (pos 0)))
  Some width

-- where the metal of a line from a to b begins and ends, from a, where it reaches so far beyond each
abbrev pub line_start : ℤ → ℤ → ℤ → ℤ → ℤ
line_start a b beyond_a beyond_b = if int_lt a b then pos 0 -ℤ beyond_a else b -ℤ a -ℤ beyond_b

abbrev pub line_end : ℤ → ℤ → ℤ → ℤ → ℤ
line_end a b beyond_a beyond_b = if int_lt a b then b -ℤ a +ℤ beyond_b else beyond_a

-- the metal of a segment from one point to another, from the first, where it is half its width on each side of the line
abbrev pub line_sides : PointModel → PointModel → ℤ → ℤ → ℤ → RectModel
line_sides p q half beyond_p beyond_q =
    if int_eq p.y q.y then
    record { x1 = line_start p.x q.x beyond_p beyond_q; y1 = pos 0 -ℤ half; x2 = line_end p.x q.x beyond_p beyond_q; y2 = half }
    else
    record { x1 = pos 0 -ℤ half; y1 = line_start p.y q.y beyond_p beyond_q; x2 = half; y2 = line_end p.y q.y beyond_p beyond_q }

-- how far metal of this width reaches beyond an end with this extension: half the width where none is written
abbrev pub reach : ℤ → Option ℤ → ℤ
reach width extension = unwrap_or extension (halfway (pos 0) width)

-- its metal, from its first point, within the limit of numbers
unfoldable pub wide_area : ℤ → PointModel → Option ℤ → PointModel → Option ℤ → Option RectModel
wide_area width at extension to extension_there = do
  within ← when (is_within width && is_within (reach width extension) && is_within (reach width extension_there))
  area_of (line_sides at to (halfway (pos 0) width) (reach width extension) (reach width extension_there))

-- A segment of this width, which is even, is kept as the rectangle that its metal is, at its first point.
unfoldable pub wide_segment : ℤ → ℕ → PointModel → Option ℤ → PointModel → Option ℤ → Option Wire
wide_segment width layer at extension to extension_there = do
  straight ← when (is_straight at to)
  even ← when (is_even width)
  rect ← wide_area width at extension to extension_there
  Some (Patch layer at rect)

-- under a rule, where it gives a width that isn't the layer's
unfoldable pub segment_under : LibraryModel → Option ℤ → ℕ → PointModel → Option ℤ → PointModel → Option ℤ → Option Wire
segment_under library None layer at extension to extension_there = plain_segment library None layer at extension to extension_there
segment_under library (Some width) layer at extension to extension_there = wide_segment width layer at extension to extension_there

-- The segment of a step, of the width of its path.
unfoldable pub segment_to : NetScopeModel → PathWidth → ℕ → PointModel → Option ℤ → PointModel → Option ℤ → Option Wire
segment_to scope OfLayers layer at extension to extension_there = plain_segment scope.library None layer at extension to extension_there
segment_to scope (OfRule rule) layer at extension to extension_there =
    segment_under scope.library (other_width scope rule layer) layer at extension to extension_there
segment_to scope (Written width) layer at extension to extension_there =
    plain_segment scope.library (Some width) layer at extension to extension_there

-- the layer of the first shape on another routing layer than this
abbrev pub other_layer : LibraryModel → ℕ → List Shape → Option ℕ
other_layer library layer shapes =
    find (λ shape. is_routing library shape.layer && not (shape.layer == layer)) shapes >>= λ shape. Some shape.layer

-- A good via that has a shape on the path's layer leads to its other routing layer.
unfoldable pub across : NetScopeModel → ℕ → ℕ → Option ℕ
across scope number layer = do
  via ← via_numbered scope number
  good ← when via.good
  meets ← when (list_any (λ shape. shape.layer == layer) via.shapes)
  other_layer scope.library layer via.shapes

-- The wires of a path, in order, from a point with its extension, on this layer. A step to another point is a segment;
-- the same point again is none. At a virtual point the path begins anew.
unfoldable pub wires_from : NetScopeModel → PathWidth → ℕ → PointModel → Option ℤ → List Item → Option (List Wire)
wires_from scope width layer at extension [] = Some []
wires_from scope width layer at extension (ToPoint x y given ∷ items) =
    if is_same_spot at (next_spot at x y) then wires_from scope width layer at extension items
    else (do
      segment ← segment_to scope width layer at extension (next_spot at x y) (extension_at (next_spot at x y) given items)
      others ← wires_from scope width layer (next_spot at x y) (extension_at (next_spot at x y) given items) items
      Some (segment ∷ others))
wires_from scope width layer at extension (ToVirtual x y ∷ items) =
    wires_from scope width layer (next_spot at x y) (extension_at (next_spot at x y) None items) items
wires_from scope width layer at extension (AtVia via ∷ items) = do
  other ← across scope via layer
  others ← wires_from scope width other at extension items
  Some (ViaAt via at ∷ others)
wires_from scope width layer at extension (AtArray via array ∷ items) = do
  other ← across scope via layer
  vias ← array_vias via array at
  others ← wires_from scope width other at extension items
  Some (vias ++ others)
wires_from scope width layer at extension (AtRect rect ∷ items) = do
  others ← wires_from scope width layer at extension items
  Some (Patch layer at rect ∷ others)

-- a path from its first point, with the extension that is given there
abbrev pub path_wires : NetScopeModel → PathWidth → ℕ → PointModel → Option ℤ → List Item → Option (List Wire)
path_wires scope width layer first given items =
    wires_from scope width layer first (extension_at first given items) items
