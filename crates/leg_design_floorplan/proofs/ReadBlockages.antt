-- Blockages that are read are on layers with metal, have rectangles with area, and aren't too many.
use Rattle.std.proofs.Common.{◌≡◌, ℕ, ◌≤◌, ◌+◌, true, ◌&&◌, nat_lt, nat_le, List, [], ◌∷◌, ◌++◌, length, All, Option, None, Some, codes, arith, length-append}
use Rattle.std.proofs.lemmas.Bool.{and_parts}
use Rattle.std.proofs.lemmas.Bool.Decides.{nat_tests}
use Rattle.std.proofs.lemmas.List.{length_push}
use Rattle.std.proofs.lemmas.List.Elements.{All-push, All-nil, All-append}
use Rattle.leg_lex.specs.Words.{Words, keyword_at, mark_at}
use Rattle.leg_lex.specs.Until.{until}
use Rattle.leg_lex.proofs.GivesAll.{until_gives}
use Rattle.leg_geom.specs.Plane.{RectModel}
use Rattle.leg_lib_records.specs.Records.{LibraryModel}
use Rattle.leg_design_records.specs.declared.limits.TheConstants.{ENTRY_LIMIT, PART_LIMIT}
use Rattle.leg_design_records.specs.Records.{BlockageModel, rect_count}
use Rattle.leg_design_records.specs.WellFormedParts.{IsArea, IsLayerOfBlockage, IsBlockage, AreBlockages}
use Rattle.leg_design_common.proofs.Gives.{Gives, gives_some, gives_bind, gives_skip, gives_choice, gives_if, when_gives, section_gives}
use Rattle.leg_design_common.proofs.ReadPlacement.{rect_gives}
use Rattle.leg_design_common.proofs.ReadPolygons.{AreAreas, polygon_gives}
use Rattle.leg_grammar.specs.declared.profile.Profile.{Profile}
use Rattle.leg_grammar.specs.Def.BlockageClause.{blockage_clause}
use Rattle.leg_grammar.specs.Lef.Polygon.{is_read_polygon}
use Rattle.leg_grammar.specs.Def.Blockage.{blocked_layer_at, at_no_plus, one_rect, one_polygon, one_area, at_semicolon, rects_at, blockage_at, is_kept, is_room_for, blockage_entry, blockages_at}
use Rattle.leg_design_floorplan.proofs.Blockages.{rect_count_push}

one_more : (rects : List RectModel) (rect : RectModel) → 1 ≤ length (rects ++ rect ∷ [])
one_more rects rect = rw (length_push rects rect) (omega arith)

one_rect_gives : (rects : List RectModel) (words : Words) → All IsArea rects → Gives (λ said. AreAreas said.0) (one_rect rects words)
unfolding one_rect
one_rect_gives rects words each =
    gives_skip (keyword_at (codes "RECT") words) (λ start.
    gives_bind (rect_gives start.1) (λ rect area.
    gives_some _ (All-push IsArea rects rect.0 each area, one_more rects rect.0)))

more_of_them : (rects slabs : List RectModel) → 1 ≤ length slabs → 1 ≤ length (rects ++ slabs)
more_of_them rects slabs some = rw (length-append rects slabs) (omega arith)

one_polygon_gives : (rects : List RectModel) (words : Words) → All IsArea rects → Gives (λ said. AreAreas said.0) (one_polygon rects words)
unfolding one_polygon
one_polygon_gives rects words each =
    gives_skip (keyword_at (codes "POLYGON") words) (λ start.
    gives_bind (polygon_gives start.1) (λ slabs are.
    gives_some _ (All-append IsArea rects slabs.0 each are.0, more_of_them rects slabs.0 are.1)))

one_area_gives : (profile : Profile) (rects : List RectModel) (words : Words) → All IsArea rects
    → Gives (λ said. AreAreas said.0) (one_area profile rects words)
unfolding one_area
one_area_gives profile rects words each = gives_if (is_read_polygon profile words) (one_polygon_gives rects words each) (one_rect_gives rects words each)

rects_give : (profile : Profile) (words : Words) → Gives (λ said. AreAreas said.0) (rects_at profile words)
unfolding rects_at
rects_give profile words =
    gives_bind (one_area_gives profile [] words (All-nil IsArea)) (λ first one.
    gives_bind (until_gives AreAreas at_semicolon (one_area profile) (λ rects left some. one_area_gives profile rects left some.0) first.0 first.1 one)
    (λ rects some.
    gives_skip (mark_at 59 rects.1) (λ end.
    gives_some _ some)))

blockage_gives : (profile : Profile) (library : LibraryModel) (words : Words) → Gives (λ said. AreAreas said.0.0.rects) (blockage_at profile library words)
unfolding blockage_at
blockage_gives profile library words =
    gives_skip (mark_at 45 words) (λ dash.
    gives_skip (blocked_layer_at library dash.1) (λ layer.
    gives_skip (until at_no_plus (blockage_clause profile layer.0) true layer.1) (λ kept.
    gives_bind (rects_give profile kept.1) (λ rects some.
    gives_some _ some))))

layer_of_kept : (library : LibraryModel) (layer : Option ℕ) → is_kept library layer ≡ true → IsLayerOfBlockage library layer
layer_of_kept library None kept = tt
layer_of_kept library (Some layer) kept = kept

with_blockage : (library : LibraryModel) (blockages : List BlockageModel) (blockage : BlockageModel) → AreBlockages library blockages
    → IsBlockage library blockage → is_room_for blockage blockages ≡ true → AreBlockages library (blockages ++ blockage ∷ [])
with_blockage library blockages blockage before holds room =
    let parts = and_parts (nat_lt (length blockages) ENTRY_LIMIT) (nat_le (rect_count blockages + length blockage.rects) PART_LIMIT) room in
    let few = parts.0 in
    let few_rects = parts.1 in
    record {
      each = All-push (IsBlockage library) blockages blockage before.each holds;
      few = rw (length_push blockages blockage) (grind (arith, nat_tests));
      few_rects = rw (rect_count_push blockages blockage) (grind (arith, nat_tests));
    }

entry_gives : (profile : Profile) (library : LibraryModel) (blockages : List BlockageModel) (words : Words) → AreBlockages library blockages
    → Gives (λ said. AreBlockages library said.0) (blockage_entry profile library blockages words)
unfolding blockage_entry
entry_gives profile library blockages words before =
    gives_bind (blockage_gives profile library words) (λ said some.
    gives_choice (said.0.1 && is_kept library said.0.0.layer)
    (λ kept.
    gives_bind (when_gives (is_room_for said.0.0 blockages)) (λ free room.
    let layer = layer_of_kept library said.0.0.layer (and_parts said.0.1 (is_kept library said.0.0.layer) kept).1 in
    let holds : IsBlockage library said.0.0 = record { layer = layer; some = some.1; rects = some.0 } in
    gives_some _ (with_blockage library blockages said.0.0 before holds room)))
    (λ dropped. gives_some _ before))

pub no_blockages : (library : LibraryModel) → AreBlockages library []
no_blockages library = record {
  each = All-nil (IsBlockage library);
  few = omega arith;
  few_rects = omega arith;
}

pub blockages_give : (profile : Profile) (library : LibraryModel) (words : Words)
    → Gives (λ said. AreBlockages library said.0) (blockages_at profile library words)
unfolding blockages_at
blockages_give profile library words =
    section_gives (AreBlockages library) (codes "BLOCKAGES") (blockage_entry profile library) (entry_gives profile library) [] words (no_blockages library)
