-- Blockages: each rectangle and each entry takes a word, and how many rectangles there are.
use Rattle.std.proofs.Common.{◌≡◌, ℕ, ◌+◌, ◌<◌, true, false, ◌&&◌, List, [], ◌∷◌, ◌++◌, length, map, None, Some, codes, refl, arith}
use Rattle.std.proofs.lemmas.Bool.{false≢true}
use Rattle.std.proofs.lemmas.List.{map_push}
use Rattle.std.specs.Char.{to_ascii_lowercase}
use Rattle.leg_lex.specs.Words.{Words, is_at, is_keyword, keyword_at, next_at}
use Rattle.leg_lex.proofs.NameLookup.{same_name}
use Rattle.leg_lex.proofs.Shorter.{keyword_below, mark_below, name_below}
use Rattle.leg_lex.specs.NameLookup.{place_of}
use Rattle.leg_lex.proofs.Until.{Below, Shortens, below_some, below_bind, below_ask, below_if, until_below}
use Rattle.leg_geom.specs.Plane.{RectModel}
use Rattle.leg_lib_records.specs.Measure.{rect_between}
use Rattle.leg_lib_records.specs.Records.{LibraryModel, layer_names}
use Rattle.leg_design_records.specs.declared.records.Blockage.{Blockage}
use Rattle.leg_design_records.specs.Records.{BlockageModel, blockage_said, rect_count}
use Rattle.leg_grammar.specs.Def.Guard.{when}
use Rattle.leg_grammar.specs.Def.Layers.{layer_named_at}
use Rattle.leg_grammar.specs.Def.Placement.{rect_at}
use Rattle.leg_design_common.proofs.Sections.{section_below}
use Rattle.leg_grammar.specs.Lef.Polygon.{is_read_polygon}
use Rattle.leg_grammar.specs.Def.Blockage.{blocked_layer_at, at_no_plus, one_rect, one_polygon, one_area, at_semicolon, rects_at, blockage_at, is_kept, is_room_for, blockage_entry, blockages_at}
use Rattle.leg_grammar.specs.declared.profile.Profile.{Profile}
use Rattle.leg_grammar.specs.Def.BlockageClause.{blockage_clause}
use Rattle.leg_design_common.proofs.Spots.{spot_below}
use Rattle.leg_design_common.proofs.Polygons.{polygon_below}
use Rattle.leg_design_floorplan.proofs.BlockageClauses.{clause_shortens}

-- POLYGON isn't RECT.
pub no_polygon : (words : Words) → is_at (codes "POLYGON") words ≡ true → keyword_at (codes "RECT") words ≡ None
unfolding keyword_at next_at
no_polygon [] there = absurd (false≢true there)
no_polygon (word ∷ words) there =
    let same : map to_ascii_lowercase word ≡ map to_ascii_lowercase (codes "POLYGON") =
    same_name (map to_ascii_lowercase word) (map to_ascii_lowercase (codes "POLYGON")) there in
    let other : is_keyword (codes "RECT") word ≡ false = rw same refl in
    rw other refl

rect_below : (words : Words) → Below (length words) (rect_at words)
unfolding rect_at
rect_below words =
    below_bind (omega arith) (spot_below words) (λ p less.
    below_bind (omega arith) (spot_below p.1) (λ q fewer.
    below_ask (rect_between p.0 q.0) (λ rect. below_some rect q.1 fewer)))

one_rect_shortens : Shortens one_rect
unfolding one_rect
one_rect_shortens rects words =
    below_bind (omega arith) (keyword_below (codes "RECT") words) (λ start less.
    below_bind (omega arith) (rect_below start.1) (λ rect fewer. below_some (rects ++ rect.0 ∷ []) rect.1 fewer))

one_polygon_shortens : Shortens one_polygon
unfolding one_polygon
one_polygon_shortens rects words =
    below_bind (omega arith) (keyword_below (codes "POLYGON") words) (λ start less.
    below_bind (omega arith) (polygon_below start.1) (λ slabs fewer. below_some (rects ++ slabs.0) slabs.1 fewer))

pub one_area_shortens : (profile : Profile) → Shortens (one_area profile)
unfolding one_area
one_area_shortens profile rects words = below_if (is_read_polygon profile words) (one_polygon_shortens rects words) (one_rect_shortens rects words)

pub one_area_shorter : (profile : Profile) (rects more : List RectModel) (words rest : Words) → one_area profile rects words ≡ Some (more, rest)
    → length rest < length words
one_area_shorter profile rects more words rest said = (one_area_shortens profile rects words).left more rest said

rects_below : (profile : Profile) (words : Words) → Below (length words) (rects_at profile words)
unfolding rects_at
rects_below profile words =
    below_bind (omega arith) (one_area_shortens profile [] words) (λ first less.
    below_bind (omega arith) (until_below at_semicolon (one_area profile) (one_area_shortens profile) first.0 first.1) (λ rects no_more.
    below_bind (omega arith) (mark_below 59 rects.1) (λ end last. below_some rects.0 end.1 last)))

layer_below : (library : LibraryModel) (words : Words) → Below (length words) (layer_named_at library words)
unfolding layer_named_at
layer_below library words =
    below_bind (omega arith) (name_below words) (λ name less.
    below_ask (place_of name.0 (layer_names library)) (λ number. below_some number name.1 less))

blocked_layer_below : (library : LibraryModel) (words : Words) → Below (length words) (blocked_layer_at library words)
unfolding blocked_layer_at
blocked_layer_below library words =
    below_if (is_at (codes "PLACEMENT") words)
    (below_bind (omega arith) (keyword_below (codes "PLACEMENT") words) (λ start less. below_some None start.1 less))
    (below_bind (omega arith) (keyword_below (codes "LAYER") words) (λ start less.
    below_bind (omega arith) (layer_below library start.1) (λ layer fewer. below_some (Some layer.0) layer.1 fewer)))

blockage_below : (profile : Profile) (library : LibraryModel) (words : Words) → Below (length words) (blockage_at profile library words)
unfolding blockage_at
blockage_below profile library words =
    below_bind (omega arith) (mark_below 45 words) (λ dash less.
    below_bind (omega arith) (blocked_layer_below library dash.1) (λ layer fewer.
    below_bind (omega arith) (until_below at_no_plus (blockage_clause profile layer.0) (clause_shortens profile layer.0) true layer.1) (λ kept no_more.
    below_bind (omega arith) (rects_below profile kept.1) (λ rects last.
    below_some (record { layer = layer.0; rects = rects.0 }, kept.0) rects.1 last))))

pub entry_shortens : (profile : Profile) (library : LibraryModel) → Shortens (blockage_entry profile library)
unfolding blockage_entry
entry_shortens profile library blockages words =
    below_bind (omega arith) (blockage_below profile library words) (λ said less.
    below_if (said.0.1 && is_kept library said.0.0.layer)
    (below_ask (when (is_room_for said.0.0 blockages)) (λ room. below_some (blockages ++ said.0.0 ∷ []) said.1 less))
    (below_some blockages said.1 less))

pub entry_shorter : (profile : Profile) (library : LibraryModel) (blockages more : List BlockageModel) (words rest : Words)
    → blockage_entry profile library blockages words ≡ Some (more, rest) → length rest < length words
entry_shorter profile library blockages more words rest said = (entry_shortens profile library blockages words).left more rest said

pub blockages_below : (profile : Profile) (library : LibraryModel) (words : Words) → Below (length words) (blockages_at profile library words)
unfolding blockages_at
blockages_below profile library words = section_below (codes "BLOCKAGES") (blockage_entry profile library) (entry_shortens profile library) [] words

-- One blockage more has so many rectangles more.
pub rect_count_push : (blockages : List BlockageModel) (blockage : BlockageModel)
    → rect_count (blockages ++ blockage ∷ []) ≡ rect_count blockages + length blockage.rects
rect_count_push [] blockage = omega arith
rect_count_push (first ∷ blockages) blockage =
    let more = rect_count_push blockages blockage in
    omega (arith, more)

-- the same, where the rectangles so far were counted
pub more_counted : {A : Type 0} (blockages all : List (Blockage A)) (blockage : Blockage A) (rects more : ℕ) → rects ≡ rect_count (map blockage_said blockages)
    → more ≡ length (blockage_said blockage).rects → all ≡ blockages ++ blockage ∷ [] → rects + more ≡ rect_count (map blockage_said all)
more_counted blockages all blockage rects more counted so_many is =
    rw (counted, so_many, is, map_push blockage_said blockages blockage, rect_count_push (map blockage_said blockages) (blockage_said blockage)) refl
