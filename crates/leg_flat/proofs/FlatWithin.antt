-- A flat keeps its limits.
use Rattle.std.proofs.Common.{◌≡◌, ℕ, ◌+◌, ◌*◌, ◌^◌, ◌<◌, ◌≤◌, List, length, length-append, map, get_or, All, refl, arith}
use Rattle.std.specs.List.{range_with_len}
use Rattle.std.proofs.lemmas.List.{length-map}
use Rattle.std.proofs.lemmas.List.Elements.{All-map}
use Rattle.std.proofs.lemmas.List.FromFn.{length-range_with_len, length-map-range_with_len}
use Rattle.leg_design_records.specs.declared.limits.TheConstants.{PART_LIMIT}
use Rattle.leg_design_records.specs.Records.{DesignModel}
use Rattle.leg_design_records.specs.WellFormedNets.{HasNets}
use Rattle.leg_rules.specs.declared.piece.Piece.{Piece}
use Rattle.leg_rules.specs.declared.piece.Piece.TheVariants.{Term, Wire}
use Rattle.leg_rules.specs.Metal.Nets.{regular_entry, special_entry, entry_wires, terminals_of, wires_of, pieces_of}
use Rattle.leg_flat.specs.Limits.{ArePieces}
use Rattle.leg_flat.specs.Steps.Places.{net_numbers}
use Rattle.leg_flat.proofs.NetSizes.{few_wires}
use Rattle.leg_flat.proofs.MetalSizes.{terminals_few}

module _ (design : DesignModel) (has : HasNets design) where
  few_pieces : (n : ℕ) → length (pieces_of design n) ≤ 2 * PART_LIMIT
  unfolding pieces_of wires_of
  few_pieces n =
      let terminals = map Term (terminals_of design n) in
      let numbers = range_with_len 0 (length (wires_of design n)) in
      omega (
        arith,
        length-append terminals (map Wire numbers),
        length-map (terminals_of design n) Term,
        length-map numbers Wire,
        length-range_with_len 0 (length (wires_of design n)),
        length-append (entry_wires (regular_entry design n)) (entry_wires (special_entry design n)),
        terminals_few design has n,
        few_wires design has n _ _ refl refl,
      )

  -- the pieces of each net of a design are few
  pub all_few_pieces : (pieces : List (List Piece)) → pieces ≡ map (pieces_of design) (net_numbers design)
      → All (λ (of : List Piece). length of < 2 ^ 32) pieces
  all_few_pieces pieces is =
      rw is (All-map (λ (of : List Piece). length of < 2 ^ 32) (pieces_of design) (net_numbers design)
      (λ i n less. omega (arith, few_pieces (get_or (net_numbers design) i n))))

  are_pieces : (shapes n : ℕ) → ArePieces shapes (pieces_of design n)
  unfolding pieces_of
  are_pieces shapes n = record {
    terminals = terminals_of design n;
    wires = length (wires_of design n);
    are = refl;
    few = omega (arith, few_pieces n);
  }

  -- the pieces of each net are terminals, and then wires
  pub all_are_pieces : (shapes : ℕ) (pieces : List (List Piece)) → pieces ≡ map (pieces_of design) (net_numbers design) → All (ArePieces shapes) pieces
  all_are_pieces shapes pieces is =
      rw is (All-map (ArePieces shapes) (pieces_of design) (net_numbers design) (λ i n less. are_pieces shapes _))

  -- and so are its nets
  pub few_nets : (pieces : List (List Piece)) → pieces ≡ map (pieces_of design) (net_numbers design) → length pieces < 2 ^ 32
  few_nets pieces is =
      rw is (omega (arith, length-map-range_with_len (pieces_of design) 0 (length design.nets + length design.special), has.few))
