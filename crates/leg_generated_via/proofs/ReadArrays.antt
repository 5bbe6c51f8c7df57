-- What holds of each rectangle on the layers of a generated via holds of all its rectangles.
use Rattle.std.proofs.Common.{◌≡◌, ℕ, pos, Bool, true, false, if◌then◌else◌, List, [], All, Option, None, Some, codes, refl}
use Rattle.std.proofs.lemmas.List.Elements.{All-nil, All-push}
use Rattle.leg_lex.specs.Words.{Words}
use Rattle.leg_lex.proofs.Gives.{Gives, gives_none, gives_some, gives_bind, gives_skip, gives_if}
use Rattle.leg_lex.proofs.GivesAll.{over_gives}
use Rattle.leg_geom.specs.Plane.{RectModel}
use Rattle.leg_lib_records.specs.declared.records.Shape.{Shape}
use Rattle.leg_design_records.specs.WellFormedParts.{IsArea}
use Rattle.leg_grammar.specs.declared.generated_via.Plate.{Plate}
use Rattle.leg_grammar.specs.declared.generated_via.ViaLayers.{ViaLayers}
use Rattle.leg_grammar.specs.declared.generated_via.ViaNumbers.{ViaNumbers}
use Rattle.leg_grammar.specs.declared.generated_via.GeneratedVia.{GeneratedVia}
use Rattle.leg_grammar.specs.Def.GeneratedVia.{pair_of, via_reach_in, via_offset_in, via_origin_in, rows_columns_in, cut_array_in, plates_in, via_between}
use Rattle.leg_grammar.specs.Def.CutPattern.{PatternRows, has_cut}
use Rattle.leg_grammar.specs.Def.CutArray.{PlacedCuts, is_area, area_of, array_of, plate_sides, cut_sides, with_area, with_plate, with_cut, numbers_from, with_row, array_shapes}
use Rattle.leg_design_common.proofs.Areas.{area_is}

module _ (P : Shape → Type 0) where
  -- it holds of each rectangle on this layer that is within the limit of numbers
  abbrev pub HoldsOn : ℕ → Type 0
  HoldsOn layer = (rect : RectModel) → IsArea rect → P (record { layer = layer; rect = rect })

  -- the layers of the plates and of the cuts are such
  pub record HoldsOnLayers (layers : ViaLayers) : Type 0 where
    pub low : HoldsOn layers.low
    pub cut : HoldsOn layers.cut
    pub high : HoldsOn layers.high

  pub record HoldsOnVia (via : GeneratedVia) : Type 0 where
    pub low : HoldsOn via.low.layer
    pub cuts : HoldsOn via.cuts.layer
    pub high : HoldsOn via.high.layer

  -- What the clauses say lies on these layers.
  pub between_gives : (numbers : ViaNumbers) (layers : ViaLayers) (clauses : List Words) → HoldsOnLayers layers
      → Gives HoldsOnVia (via_between numbers layers clauses)
  unfolding via_between plates_in cut_array_in
  between_gives numbers layers clauses on =
      gives_bind {Q = λ plates. HoldsOn plates.0.layer × HoldsOn plates.1.layer}
      (gives_skip (via_reach_in numbers clauses) (λ reach.
      gives_skip (via_offset_in numbers clauses) (λ shift.
      gives_some _ (on.low, on.high)))) (λ plates holds.
      gives_bind {Q = λ cuts. HoldsOn cuts.layer}
      (gives_skip (pair_of numbers (codes "CUTSIZE") (pos 1) clauses) (λ cut.
      gives_skip (pair_of numbers (codes "CUTSPACING") (pos 0) clauses) (λ gap.
      gives_skip (rows_columns_in clauses) (λ counts.
      gives_skip (via_origin_in numbers clauses) (λ middle.
      gives_some _ on.cut))))) (λ cuts is.
      gives_some _ (record { low = holds.0; cuts = is; high = holds.1 })))

  area_gives : (layer : ℕ) (rect : RectModel) (shapes : List Shape) → HoldsOn layer → All P shapes → Gives (All P) (with_area layer (area_of rect) shapes)
  unfolding area_of
  area_gives layer rect shapes holds each = by (is_area rect) refl where
    by : (area : Bool) → is_area rect ≡ area → Gives (All P) (with_area layer (if area then Some rect else None) shapes)
    by true is = gives_some _ (All-push P shapes (record { layer = layer; rect = rect }) each (holds rect (area_is rect is)))
    by false is = gives_none

  plate_gives : (array : RectModel) (shapes : List Shape) (plate : Plate) → HoldsOn plate.layer → All P shapes → Gives (All P) (with_plate array shapes plate)
  unfolding with_plate
  plate_gives array shapes plate holds each = area_gives plate.layer (plate_sides array plate) shapes holds each

  cut_gives : (placed : PlacedCuts) (row : ℕ) → HoldsOn placed.cuts.layer → (shapes : List Shape) (column : ℕ) → All P shapes
      → Gives (All P) (with_cut placed row shapes column)
  unfolding with_cut
  cut_gives placed row holds shapes column each =
      gives_if (has_cut placed.pattern row column)
      (area_gives placed.cuts.layer (cut_sides placed.array placed.cuts row column) shapes holds each)
      (gives_some shapes each)

  row_gives : (placed : PlacedCuts) → HoldsOn placed.cuts.layer → (shapes : List Shape) (row : ℕ) → All P shapes
      → Gives (All P) (with_row placed shapes row)
  unfolding with_row
  row_gives placed holds shapes row each =
      over_gives (All P) (with_cut placed row) (cut_gives placed row holds) shapes (numbers_from 0 placed.cuts.columns) each

  -- It holds of all rectangles of the via.
  pub array_gives : (pattern : Option (List PatternRows)) (via : GeneratedVia) → HoldsOnVia via → Gives (All P) (array_shapes pattern via)
  unfolding array_shapes
  array_gives pattern via on =
      gives_skip (array_of via.cuts) (λ array.
      gives_bind (plate_gives array [] via.low on.low (All-nil P)) (λ low each.
      let placed : PlacedCuts = record { array = array; cuts = via.cuts; pattern = pattern } in
      gives_bind (over_gives (All P) (with_row placed) (row_gives placed on.cuts) low (numbers_from 0 via.cuts.rows) each) (λ cuts all.
      plate_gives array cuts via.high on.high all)))
