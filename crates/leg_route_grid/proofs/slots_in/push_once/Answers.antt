use Rattle.leg_route_grid.proofs.SlotRanges.{got_added, got_listed}
use Rattle.leg_route_grid.proofs.slots_in.push_once.Goals as goal

pub returns-in_ok-push : goal.returns-in_ok-push
returns-in_ok-push g c = got_added c.args.slot c.args.slots.now.items c.push.new.self.items c.in_ok-push.ensures.items

pub returns-else-not-is_listed : goal.returns-else-not-is_listed
returns-else-not-is_listed g c = got_listed c.args.slot c.args.slots.now.items (rw c.deref.ensures.value at (c.is_listed.ensures c.if-not-is_listed.false))
