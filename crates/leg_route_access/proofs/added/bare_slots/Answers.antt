use Rattle.std.proofs.Common.{arith}
use Rattle.leg_route_access.proofs.BareSlots.{none_told_yet, one_slot_more}
use Rattle.leg_route_access.proofs.added.bare_slots.Goals as goal

pub loop-number-init : goal.loop-number-init
loop-number-init g c = none_told_yet c.args.grid.now c.in_ok-slots.slots.items c.in_ok-slots.ensures.items

pub loop-number-preserved : goal.loop-number-preserved
loop-number-preserved g c =
    rw c.in_ok-push.ensures.items (one_slot_more c.args.grid.now c.loop-number.number c.loop-number.slots.items c.bare_slot.result c.loop-number.invariant
    c.bare_slot.ensures)

pub returns : goal.returns
returns g c flat bare = record {
  count = let count = c.loop-number.invariant.count in let size = c.size-number-end.ensures.is in omega (arith, count, size);
  each = c.loop-number.invariant.told flat bare;
}
