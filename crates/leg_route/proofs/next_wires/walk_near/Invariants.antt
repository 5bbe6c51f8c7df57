-- What is known of the part and of the marks stays true.
use Rattle.std.proofs.Common.{◌≡◌, length}
use Rattle.leg_route_grid.specs.Steps.Grid.{slot_total}
use Rattle.leg_route.specs.Steps.NetEnds.{ends_in}
use Rattle.leg_route.specs.Steps.NetSlots.{IsPartOf}
use Rattle.leg_route.proofs.next_wires.walk_near.Given as goal

abbrev pub invariant-rounds : goal.invariant-rounds
invariant-rounds g l = record {
  part : IsPartOf l.grid l.flat l.net l.part.joined.items l.numbers l.part.slots.boxes.items l.part.slots.slots.items l.part.hulls.items (ends_in l.part.ends);
  same_net : l.part.net ≡ l.fn.part.net;
  same_joined : l.part.joined.items ≡ l.fn.part.joined.items;
  count : length l.marks ≡ slot_total l.grid;
}
