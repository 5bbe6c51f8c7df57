-- A flat with a wire more keeps its limits.
use Rattle.std.proofs.Common.{◌≡◌, ℕ, ◌+◌, ◌^◌, ◌<◌, ◌≤◌, Bool, true, false, not, ◌&&◌, List, [], ◌∷◌, ◌++◌, length, map, set, get_or, Some, sym, ap, subst, refl, ◌∙◌, arith}
use Rattle.std.specs.List.{range_with_len}
use Rattle.std.proofs.lemmas.Bool.{false≢true}
use Rattle.std.proofs.lemmas.List.{length-append, length-map, length-set, append_assoc, set-get_or}
use Rattle.std.proofs.lemmas.List.Elements.{All-weaker, All-set, All-get_or, All-append}
use Rattle.std.proofs.lemmas.List.FromFn.{map-range_with_len_more}
use Rattle.std.proofs.lemmas.Option.{slice_get-get_or, slice_get_within, get_or_from_slice_get}
use Rattle.leg_lib_records.specs.Scale.{OneForOne}
use Rattle.leg_lib_records.specs.Sound.{IsSound}
use Rattle.leg_lib_records.specs.GoodVia.{is_good_via}
use Rattle.leg_lib_records.specs.Joins.{is_wiring_word}
use Rattle.leg_lib_records.specs.References.{IsViaOf}
use Rattle.leg_lib_records.specs.Records as library
use Rattle.leg_lib_records.specs.declared.records.Shape as metal
use Rattle.leg_lib_records.proofs.OneEach.{same_length}
use Rattle.leg_design_records.specs.declared.limits.TheConstants.{PART_LIMIT}
use Rattle.leg_design_records.specs.declared.records.Terminal.{Terminal}
use Rattle.leg_design_records.specs.declared.records.Wire as records
use Rattle.leg_design_records.specs.declared.records.Wire.TheVariants.{Segment, ViaAt, Patch}
use Rattle.leg_design_records.specs.Records.{DesignModel}
use Rattle.leg_design_records.specs.WellFormed.{IsWellFormed}
use Rattle.leg_design_records.specs.WellFormedParts.{IsDesignVia}
use Rattle.leg_design_records.specs.WellFormedNets.{IsWire}
use Rattle.leg_rules.specs.declared.piece.Piece.{Piece}
use Rattle.leg_rules.specs.declared.piece.Piece.TheVariants.{Term, Wire}
use Rattle.leg_rules.specs.declared.shape.Shape.{Shape}
use Rattle.leg_rules.specs.Metal.Metal.{wire_outlines}
use Rattle.leg_flat.specs.Limits.{IsWithinLimits, ArePieces}
use Rattle.leg_rules.specs.Metal.Flat.{FlatModel, IsShapeOf, pieces_with}
use Rattle.leg_rules.specs.Metal.MoreWires.{wire_metal, HasOneMoreWire}
use Rattle.leg_flat.proofs.LastPiece.{length_of_pieces}

never_both : (b : Bool) → ¬ ((b && false) ≡ true)
never_both true both = absurd (false≢true both)
never_both false both = absurd (false≢true both)

-- a good via has shapes
good_has_shapes : (contents : library.LibraryModel) (name : List ℕ) (shapes : List metal.Shape) → is_good_via contents name shapes ≡ true → 1 ≤ length shapes
unfolding is_good_via
good_has_shapes contents name [] good = absurd (never_both (not (is_wiring_word name)) good)
good_has_shapes contents name (shape ∷ shapes) good = omega arith

abbrev IsMarked : library.LibraryModel → library.ViaModel → Type 0
IsMarked contents via = via.good ≡ is_good_via contents via.name via.shapes

-- a wire has a shape
pub some_outlines : (design : DesignModel) → IsSound design.library → IsWellFormed design → (wire : records.Wire)
    → IsWire design.library design.vias false wire → 1 ≤ length (wire_outlines design wire)
some_outlines design sound proper (Segment layer from to width ext_from ext_to) is = omega arith
some_outlines design sound proper (Patch layer at rect) is = omega arith
some_outlines design sound proper (ViaAt number at) is =
    let marked = All-append (IsMarked design.library) design.library.vias design.vias
    (All-weaker (IsViaOf design.library) (IsMarked design.library) (λ via of. of.good) design.library.vias sound.references.vias)
    (All-weaker (IsDesignVia design.library) (IsMarked design.library) (λ via of. of.good) design.vias proper.vias.each) in
    let known = is.1 in
    let via = known.0 in
    let vias = design.library.vias ++ design.vias in
    let mark : IsMarked design.library via =
    subst (IsMarked design.library) (get_or_from_slice_get vias number via via known.1)
    (All-get_or (IsMarked design.library) vias number via (slice_get_within vias number via known.1) marked) in
    rw (known.1, length-map via.shapes) (good_has_shapes design.library via.name via.shapes (sym mark ∙ known.2))

pub metal_count : (design : DesignModel) (net k : ℕ) (wire : records.Wire) (added : List Shape) → OneForOne IsShapeOf (wire_metal design net k wire) added
    → length added ≡ length (wire_outlines design wire)
metal_count design net k wire added each =
    sym (same_length IsShapeOf (wire_metal design net k wire) added each) ∙ length-map (wire_outlines design wire) _

one_more_piece : (terminals : List Terminal) (wires : ℕ) → pieces_with terminals (wires + 1) ≡ pieces_with terminals wires ++ Wire wires ∷ []
one_more_piece terminals wires =
    rw (map-range_with_len_more Wire 0 wires wires (omega arith))
    (sym (append_assoc (map Term terminals) (map Wire (range_with_len 0 wires)) (Wire wires ∷ [])))

-- what is known where a net gets a wire
pub record GetsWire (before : FlatModel) (net : ℕ) (pieces : List Piece) (number : ℕ) (added : List Shape) : Type 0 where
  pub within : IsWithinLimits before
  pub there : net < length before.pieces
  pub are : pieces ≡ get_or before.pieces net pieces
  pub next : (terminals : List Terminal) (wires : ℕ) → pieces ≡ pieces_with terminals wires → number ≡ wires
  pub some : 1 ≤ length added
  pub few : length before.shapes + length added ≤ PART_LIMIT

abbrev pub with_wire : FlatModel → ℕ → List Piece → ℕ → List Shape → FlatModel
with_wire before net pieces number added =
    record { shapes = before.shapes ++ added; pieces = set before.pieces net (pieces ++ Wire number ∷ []) }

module _ (before : FlatModel) (net : ℕ) (pieces : List Piece) (number : ℕ) (added : List Shape) (gets : GetsWire before net pieces number added) where
  old_pieces : ArePieces (length before.shapes) pieces
  old_pieces = rw (sym gets.are) at (All-get_or (ArePieces (length before.shapes)) before.pieces net pieces gets.there gets.within.of_nets)

  abbrev after : FlatModel
  after = with_wire before net pieces number added

  longer : length after.shapes ≡ length before.shapes + length added
  longer = length-append before.shapes added

  new_are : pieces ++ Wire number ∷ [] ≡ pieces_with old_pieces.terminals (old_pieces.wires + 1)
  new_are =
      let old = old_pieces in
      ap (λ of. of ++ Wire number ∷ []) old.are
      ∙ ap (λ wire. pieces_with old.terminals old.wires ++ Wire wire ∷ []) (gets.next old.terminals old.wires old.are)
      ∙ sym (one_more_piece old.terminals old.wires)

  new_pieces : ArePieces (length after.shapes) (pieces ++ Wire number ∷ [])
  new_pieces =
      let old = old_pieces in
      record {
        terminals = old.terminals;
        wires = old.wires + 1;
        are = new_are;
        few = omega (arith, old.few, longer, gets.some, length-append pieces (Wire number ∷ []));
      }

  pub is_within : IsWithinLimits after
  is_within = record {
    shapes = omega (arith, longer, gets.few);
    nets = rw (length-set) gets.within.nets;
    pieces =
        All-set (λ (of : List Piece). length of < 2 ^ 32) before.pieces net (pieces ++ Wire number ∷ [])
        (omega (arith, new_pieces.few, longer, gets.few)) gets.within.pieces;
    of_nets = All-set (ArePieces (length after.shapes)) before.pieces net (pieces ++ Wire number ∷ []) new_pieces
        (All-weaker (ArePieces (length before.shapes)) (ArePieces (length after.shapes)) more before.pieces gets.within.of_nets);
  } where
    more : (of : List Piece) → ArePieces (length before.shapes) of → ArePieces (length after.shapes) of
    more of are = record { terminals = are.terminals; wires = are.wires; are = are.are; few = omega (arith, are.few, longer) }

  pub has_more : (design : DesignModel) (wire : records.Wire) → OneForOne IsShapeOf (wire_metal design net (length pieces) wire) added
      → HasOneMoreWire design net wire before after
  has_more design wire each =
      let old = old_pieces in
      record {
        terminals = old.terminals;
        wires = old.wires;
        there = slice_get-get_or before.pieces net pieces gets.there ∙ ap Some (sym gets.are ∙ old.are);
        pieces = ap (set before.pieces net) new_are;
        added = added;
        shapes = refl;
        each = subst (λ k. OneForOne IsShapeOf (wire_metal design net k wire) added) (ap length old.are ∙ length_of_pieces old.terminals old.wires) each;
      }

-- a net that keeps its pieces is as it was
pub same_pieces : (nets : List (List Piece)) (net : ℕ) (now old : List Piece) → now ≡ old → old ≡ get_or nets net old → set nets net now ≡ nets
same_pieces nets net now old same is = ap (set nets net) (same ∙ is) ∙ set-get_or nets net old

pub has_pieces : (before : FlatModel) (net : ℕ) (pieces : List Piece) → IsWithinLimits before → net < length before.pieces
    → pieces ≡ get_or before.pieces net pieces
    → (terminals : List Terminal) × ((wires : ℕ) × (pieces ≡ pieces_with terminals wires))
has_pieces before net pieces within there is =
    let old = All-get_or (ArePieces (length before.shapes)) before.pieces net pieces there within.of_nets in
    (old.terminals, (old.wires, is ∙ old.are))
