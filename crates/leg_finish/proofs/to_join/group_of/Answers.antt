use Rattle.leg_route_grid.specs.Steps.Grid.{slot_total}
use Rattle.leg_finish.proofs.to_join.group_of.Goals as goal

pub group_slots-requires : goal.group_slots-requires
group_slots-requires g c = rw (c.shapes.ensures.is, c.as_slice.ensures) c.requires.shapes

pub open_ones-requires : goal.open_ones-requires
open_ones-requires g c = rw (c.deref.ensures.value, c.requires.count) (c.put_in_order.ensures (slot_total c.args.grid.now) c.in_ok-found.ensures.within)

pub returns : goal.returns
returns g c = rw c.requires.count at c.open_ones.ensures
