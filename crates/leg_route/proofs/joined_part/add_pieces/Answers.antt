-- One piece more.
use Rattle.std.proofs.Common.{◌≡◌, ◌+◌, ◌++◌, ◌∷◌, [], take, get_or, arith}
use Rattle.std.proofs.lemmas.List.{take_more, take_all}
use Rattle.leg_route.proofs.JoinedSlots.{pieces_none, pieces_more}
use Rattle.leg_route.proofs.joined_part.add_pieces.Goals as goal

pub loop-piece-init : goal.loop-piece-init
loop-piece-init g c = pieces_none c.args.grid.now c.args.joins.now.metal c.args.found.now.boxes.items c.args.found.now.slots.items

pub loop-piece-preserved : goal.loop-piece-preserved
loop-piece-preserved g c =
    let pieces = c.args.pieces.now in
    let i = c.loop-piece.piece-index in
    let found = c.loop-piece.found in
    let after = c.add_metal.new.found in
    let more : take (i + 1) pieces ≡ take i pieces ++ get_or pieces i 0 ∷ [] = take_more pieces i 0 (omega arith) in
    rw more
    (pieces_more c.args.grid.now c.args.joins.now.metal (take i pieces) (get_or pieces i 0) c.metal_of.result.now c.metal_of.ensures
    c.args.found.now.boxes.items found.boxes.items after.boxes.items c.args.found.now.slots.items found.slots.items after.slots.items
    c.loop-piece.invariant c.in_ok-add_metal.ensures)

pub returns : goal.returns
returns g c = rw (take_all c.loop-piece.piece-index c.args.pieces.now (omega arith)) at c.loop-piece.invariant
