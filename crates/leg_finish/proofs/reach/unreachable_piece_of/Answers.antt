use Rattle.std.proofs.Common.{sym}
use Rattle.leg_finish.proofs.reach.unreachable_piece_of.Goals as goal

pub unreachable_piece-requires-clause-told : goal.unreachable_piece-requires-clause-told
unreachable_piece-requires-clause-told g c = rw c.deref.ensures.value (c.in_ok-slots.ensures c.args.flat.now (sym c.shapes.ensures.is))
