use Rattle.std.proofs.Common.{[], ◌∷◌, map, append_assoc, arith}
use Rattle.std.specs.List.{range_with_len}
use Rattle.std.proofs.lemmas.List.FromFn.{map-range_with_len_more}
use Rattle.leg_rules.specs.declared.piece.Piece.TheVariants.{Wire}
use Rattle.leg_flat.proofs.nets.add_wires.Goals as goal

pub loop-wire-preserved : goal.loop-wire-preserved
loop-wire-preserved g c =
    rw (c.in_ok-push.ensures.items, c.loop-wire.invariant, map-range_with_len_more Wire 0 c.loop-wire.wire c.loop-wire.wire (omega arith))
    (append_assoc c.args.pieces.now.items (map Wire (range_with_len 0 c.loop-wire.wire)) (Wire c.loop-wire.wire ∷ []))
