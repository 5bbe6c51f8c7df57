-- The last piece tells the number of the next wire.
use Rattle.std.proofs.Common.{rules, ◌≡◌, ◌-◌, length, Some, slice_get, arith}
use Rattle.leg_rules.specs.declared.piece.Piece.TheVariants.{Term, Wire}
use Rattle.leg_flat.proofs.LastPiece.{length_of_pieces, wires_by_wire, wires_by_terminal}
use Rattle.leg_flat.proofs.flat_change.next_wire.Goals as goal

pub overflow_add-result : goal.overflow_add-result
overflow_add-result c =
    let pieces = c.args.pieces.now in
    let last : slice_get pieces (length pieces - 1) ≡ Some (Wire c.in-Some-Wire.last) = search rules in
    let are = c.requires.are in
    let next = wires_by_wire are.0 are.1.0 c.in-Some-Wire.last (rw are.1.1 at last) in
    let long = length_of_pieces are.0 are.1.0 in
    let few = c.requires.few in
    omega (arith, next, long, rw are.1.1 at few)

pub returns-in-Some-Wire : goal.returns-in-Some-Wire
returns-in-Some-Wire c =
    let pieces = c.args.pieces.now in
    let last : slice_get pieces (length pieces - 1) ≡ Some (Wire c.in-Some-Wire.last) = search rules in
    λ terminals wires are. wires_by_wire terminals wires c.in-Some-Wire.last (rw are at last)

pub returns-in-Some-Term : goal.returns-in-Some-Term
returns-in-Some-Term c =
    let pieces = c.args.pieces.now in
    let last : slice_get pieces (length pieces - 1) ≡ Some (Term c.in-Some-Term._terminal) = search rules in
    λ terminals wires are. wires_by_terminal terminals wires c.in-Some-Term._terminal (rw are at last)
