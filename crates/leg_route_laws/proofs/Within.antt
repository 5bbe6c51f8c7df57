-- Numbers of nets and of shapes are within the lists of a flat.
use Rattle.std.proofs.Common.{◌≡◌, ◌+◌, ◌<◌, ◌≤◌, ℕ, List, map, All, length, arith}
use Rattle.std.specs.List.{range_with_len}
use Rattle.std.proofs.lemmas.List.FromFn.{length-map-range_with_len}
use Rattle.std.proofs.lemmas.Option.{slice_get_within}
use Rattle.leg_lemmas.proofs.Contents.{All-from_contains}
use Rattle.leg_design_records.specs.Records.{DesignModel}
use Rattle.leg_rules.specs.declared.shape.Shape.{Shape}
use Rattle.leg_rules.specs.Metal.Nets.{pieces_of}
use Rattle.leg_rules.specs.Metal.Flat.{FlatModel, IsFlatOf}
use Rattle.leg_wire.specs.NetShapes.{AreNumbersOf}

-- each entry of NETS has the pieces of its number in a flat of the design
pub nets_within : (design : DesignModel) (flat : FlatModel) → IsFlatOf design flat → length design.nets ≤ length flat.pieces
nets_within design flat is =
    let entries = length design.nets + length design.special in
    let many : length (map (pieces_of design) (range_with_len 0 entries)) ≡ entries = length-map-range_with_len (pieces_of design) 0 entries in
    rw is.pieces (omega (arith, many))

-- each number of a net's shapes is that of a shape
pub numbers_within : (shapes : List Shape) (net : ℕ) (numbers : List ℕ) → AreNumbersOf shapes net numbers → All (λ k. k < length shapes) numbers
numbers_within shapes net numbers are =
    All-from_contains (λ k. k < length shapes) numbers (λ k has. let of_net = are.each k has in slice_get_within shapes k of_net.shape of_net.at)
