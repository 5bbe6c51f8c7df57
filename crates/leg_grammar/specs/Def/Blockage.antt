-- Blockages (LEF/DEF 5.8, "Blockages"; which of them are read, and how many there may be, are lefdef's own rules).
use Rattle.std.specs.Prelude.{ℕ, Bool, true, not, ◌&&◌, ◌+◌, nat_lt, nat_le, if◌then◌else◌, List, [], ◌∷◌, ◌++◌, length, Option, None, Some, codes}
use Rattle.leg_lex.specs.Words.{Words, ◌>>=◌, is_at, keyword_at, mark_at}
use Rattle.leg_lex.specs.Until.{until}
use Rattle.leg_geom.specs.Plane.{RectModel}
use Rattle.leg_lib_records.specs.Records.{LibraryModel}
use Rattle.leg_grammar.specs.declared.profile.Profile.{Profile}
use Rattle.leg_grammar.specs.Lef.Polygon.{is_read_polygon}
use Rattle.leg_grammar.specs.Def.Guard.{when}
use Rattle.leg_grammar.specs.Def.Placement.{rect_at}
use Rattle.leg_grammar.specs.Def.Polygon.{polygon_at}
use Rattle.leg_grammar.specs.Def.Layers.{layer_named_at}
use Rattle.leg_grammar.specs.Def.Section.{section_at}
use Rattle.leg_grammar.specs.Def.BlockageClause.{blockage_clause}
use Rattle.leg_design_records.specs.declared.limits.TheConstants.{ENTRY_LIMIT, PART_LIMIT}
use Rattle.leg_design_records.specs.Layers.{has_metal}
use Rattle.leg_design_records.specs.Records.{BlockageModel, rect_count}

-- PLACEMENT, or LAYER NAME: the layer, where one is named
unfoldable pub blocked_layer_at : LibraryModel → Words → Option (Option ℕ × Words)
blocked_layer_at library words =
    if is_at (codes "PLACEMENT") words then (keyword_at (codes "PLACEMENT") words >>= λ start. Some (None, start.1))
    else (keyword_at (codes "LAYER") words >>= λ start. layer_named_at library start.1 >>= λ layer. Some (Some layer.0, layer.1))

abbrev pub at_no_plus : Words → Bool
at_no_plus words = not (is_at (codes "+") words)

-- one more RECT corners
unfoldable pub one_rect : List RectModel → Words → Option (List RectModel × Words)
one_rect rects words = do
  start ← keyword_at (codes "RECT") words
  rect ← rect_at start.1
  Some (rects ++ rect.0 ∷ [], rect.1)

-- the slabs of one more POLYGON points
unfoldable pub one_polygon : List RectModel → Words → Option (List RectModel × Words)
one_polygon rects words = do
  start ← keyword_at (codes "POLYGON") words
  slabs ← polygon_at start.1
  Some (rects ++ slabs.0, slabs.1)

-- one more RECT, or in the wide profile POLYGON
unfoldable pub one_area : Profile → List RectModel → Words → Option (List RectModel × Words)
one_area profile rects words = if is_read_polygon profile words then one_polygon rects words else one_rect rects words

abbrev pub at_semicolon : Words → Bool
at_semicolon words = is_at (codes ";") words

-- one rectangle or polygon at least, and then the semicolon (59)
unfoldable pub rects_at : Profile → Words → Option (List RectModel × Words)
rects_at profile words = do
  first ← one_area profile [] words
  rects ← until at_semicolon (one_area profile) first.0 first.1
  end ← mark_at 59 rects.1
  Some (rects.0, end.1)

-- - LAYER NAME or - PLACEMENT, any clauses, and rectangles and polygons (45 is the dash): the blockage, and whether its clauses keep it
unfoldable pub blockage_at : Profile → LibraryModel → Words → Option ((BlockageModel × Bool) × Words)
blockage_at profile library words = do
  dash ← mark_at 45 words
  layer ← blocked_layer_at library dash.1
  kept ← until at_no_plus (blockage_clause profile layer.0) true layer.1
  rects ← rects_at profile kept.1
  Some ((record { layer = layer.0; rects = rects.0 }, kept.0), rects.1)

-- a blockage on a layer without metal is left out
abbrev pub is_kept : LibraryModel → Option ℕ → Bool
is_kept library None = true
is_kept library (Some layer) = has_metal library layer

-- there may be one more blockage, and so many more rectangles
abbrev pub is_room_for : BlockageModel → List BlockageModel → Bool
is_room_for blockage blockages =
    nat_lt (length blockages) ENTRY_LIMIT && nat_le (rect_count blockages + length blockage.rects) PART_LIMIT

-- one more entry
unfoldable pub blockage_entry : Profile → LibraryModel → List BlockageModel → Words → Option (List BlockageModel × Words)
blockage_entry profile library blockages words = do
  said ← blockage_at profile library words
  if said.0.1 && is_kept library said.0.0.layer then (when (is_room_for said.0.0 blockages) >>= λ room. Some (blockages ++ said.0.0 ∷ [], said.1))
      else Some (blockages, said.1)

-- BLOCKAGES number ; entries END BLOCKAGES
unfoldable pub blockages_at : Profile → LibraryModel → Words → Option (List BlockageModel × Words)
blockages_at profile library words = section_at (codes "BLOCKAGES") (blockage_entry profile library) [] words
