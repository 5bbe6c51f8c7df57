-- The wires of a net by their numbers, in its two entries.
use Rattle.std.proofs.Common.{◌≡◌, ◌↔◌, ℕ, ◌+◌, ◌-◌, ◌<◌, ◌≤◌, List, ◌++◌, length, map, Option, None, Some, IsTrue, Bool, slice_get, refl, sym, ap, ◌∙◌, inl, inr, arith}
use Rattle.std.specs.Prelude.{IsSome}
use Rattle.std.specs.List.{range_with_len}
use Rattle.std.proofs.lemmas.List.{length-append}
use Rattle.leg_lemmas.proofs.Places.{get_cases, get_behind, in_first, mapped_at}
use Rattle.leg_lemmas.proofs.Ranges.{number_is_place}
use Rattle.leg_design_records.specs.declared.records.Terminal.{Terminal}
use Rattle.leg_design_records.specs.declared.records.Wire as records
use Rattle.leg_design_records.specs.Records.{DesignModel, NetModel}
use Rattle.leg_rules.specs.declared.piece.Piece.{Piece}
use Rattle.leg_rules.specs.declared.piece.Piece.TheVariants.{Term, Wire}
use Rattle.leg_rules.specs.declared.shape.Shape.{Shape}
use Rattle.leg_rules.specs.Metal.Flat.{FlatModel, IsFlatOf}
use Rattle.leg_rules.specs.Metal.Nets.{entry_wires, regular_entry, special_entry, terminals_of, wires_of, pieces_of}
use Rattle.leg_drc.specs.Wires.{IsOfWireOf, IsOfSegment}
use Rattle.leg_drc.specs.Steps.Segments.{IsSegmentAt}
use Rattle.leg_drc.proofs.WireShapes.{same_wire, one_wire}

module _ (design : DesignModel) where
  -- the pieces that a flat has of a net are the net's
  pub pieces_are : (flat : FlatModel) (n : ℕ) (pieces : List Piece) → IsFlatOf design flat → slice_get flat.pieces n ≡ Some pieces → pieces ≡ pieces_of design n
  pieces_are flat n pieces is has =
      let nets = range_with_len 0 (length design.nets + length design.special) in
      let there : slice_get (map (pieces_of design) nets) n ≡ Some pieces = rw is.pieces at has in
      let from = mapped_at (pieces_of design) nets n pieces there in
      let number = number_is_place (length design.nets + length design.special) n from.0 from.1 in
      from.2 ∙ ap (pieces_of design) number.1

  -- a piece that is a wire has the number of one of the net's wires
  piece_within : (n k w : ℕ) → slice_get (pieces_of design n) k ≡ Some (Wire w) → w < length (wires_of design n)
  unfolding pieces_of
  piece_within n k w at =
      let terms = map Term (terminals_of design n) in
      let wires = map Wire (range_with_len 0 (length (wires_of design n))) in
      elim (get_cases terms wires k (Wire w) at) [
        | inl first ↦
            let from = mapped_at Term (terminals_of design n) k (Wire w) first in
            absurd (wire_no_terminal w from.0 from.2)
        | inr second ↦
            let from = mapped_at Wire (range_with_len 0 (length (wires_of design n))) second.j (Wire w) second.there in
            let number = number_is_place (length (wires_of design n)) second.j from.0 from.1 in
            let same : w ≡ from.0 = same_wire w from.0 from.2 in
            omega (arith, same, number.0, number.1)
      ]
    where
      wire_no_terminal : (w : ℕ) (t : Terminal) → Wire w ≡ Term t → ⊥
      wire_no_terminal w t same = cc

  pub wire_within : (flat : FlatModel) (shape : Shape) (n w : ℕ) → IsFlatOf design flat → IsOfWireOf flat n w shape → w < length (wires_of design n)
  wire_within flat shape n w is of =
      piece_within n of.piece w (rw (pieces_are flat n of.pieces is of.has_net) at of.has_piece)

  module _ (n number : ℕ) where
    abbrev regular : List records.Wire
    regular = entry_wires (regular_entry design n)

    -- a wire of the entry of NETS
    pub wire_of_regular : number < length regular → slice_get regular number ≡ slice_get (wires_of design n) number
    unfolding wires_of
    wire_of_regular within = sym (in_first regular (entry_wires (special_entry design n)) number within)

    -- one of the entry of SPECIALNETS
    pub wire_of_special : length regular ≤ number → slice_get (entry_wires (special_entry design n)) (number - length regular) ≡ slice_get (wires_of
        design n) number
    unfolding wires_of
    wire_of_special past = sym (get_behind regular (entry_wires (special_entry design n)) number (number - length regular) (omega (arith, past)))

    -- which there is then
    pub special_there : length regular ≤ number → number < length (wires_of design n) → IsSome (special_entry design n)
    unfolding wires_of
    special_there past within = by (special_entry design n) within where
      by : (entry : Option NetModel) → number < length (regular ++ entry_wires entry) → IsSome entry
      by None within = absurd (omega (arith, past, within, length-append regular (entry_wires None)))
      by (Some entry) within = refl

  -- the shape of a wire is a segment just where the wire is one
  module _ (flat : FlatModel) (shape : Shape) (n w : ℕ) (of : IsOfWireOf flat n w shape) where
    segment_from : (wire : Option records.Wire) → slice_get (wires_of design n) w ≡ wire → IsSegmentAt wire → IsOfSegment design flat shape
    segment_from None at segment = absurd segment
    segment_from (Some wire) at segment = record { net = n; number = w; wire = wire; of_wire = of; has_wire = at; segment = segment }

    pub segment_told : (wire : Option records.Wire) → wire ≡ slice_get (wires_of design n) w → (test : Bool) → IsTrue test ↔ IsSegmentAt wire
        → IsTrue test ↔ IsOfSegment design flat shape
    segment_told wire is test tells = (
      λ t. segment_from wire (sym is) (tells.0 t),
      λ segment.
          let same = one_wire flat shape segment.net segment.number n w segment.of_wire of in
          let at : slice_get (wires_of design n) w ≡ Some segment.wire = rw (← same.0, ← same.1) segment.has_wire in
          tells.1 (rw (is, at) segment.segment),
    )
