use Rattle.std.proofs.Common.{false}
use Rattle.leg_route_laws.proofs.Within.{numbers_within}
use Rattle.leg_route.specs.Steps.NetEnds.{ends_in}
use Rattle.leg_route.specs.Steps.NetSlots.{AreMarkedSlots}
use Rattle.leg_route.proofs.NetSlots.{ends_are}
use Rattle.leg_route.proofs.NearWalk.{search_from}
use Rattle.leg_route.proofs.next_wires.next_walk.Goals as goal

pub marked_slots-requires : goal.marked_slots-requires
marked_slots-requires g c = rw c.shapes-shapes.ensures.is (numbers_within c.args.flat.now.shapes c.args.net c.args.numbers.now c.requires.numbers)

pub walk_further-requires-clause-given : goal.walk_further-requires-clause-given
walk_further-requires-clause-given g c =
    let part = c.walk_near.new.part in
    rw c.deref-2.ensures.value
    (search_from c.args.flat.now c.args.net c.args.numbers.now c.requires.numbers part.joined.items (rw c.walk_near.ensures.same_joined c.requires.joined)
    c.args.grid.now part.slots.boxes.items part.slots.slots.items part.hulls.items (ends_in part.ends) c.in_ok-near.ensures.part c.args.slots.now
    c.requires.told)

pub walk_further-requires-clause-ends : goal.walk_further-requires-clause-ends
walk_further-requires-clause-ends g c =
    let grid = c.args.grid.now in
    let flat = c.args.flat.now in
    let numbers = c.args.numbers.now in
    let joined = c.walk_near.new.part.joined.items in
    let boxes = c.in_ok-ends.ends.boxes.items in
    let ends = c.in_ok-ends.ends.slots.items in
    let told : AreMarkedSlots grid flat.shapes joined false numbers boxes ends =
    rw (c.shapes-shapes.ensures.is, c.deref.ensures.value) at c.in_ok-ends.ensures in
    ends_are flat c.args.net numbers c.requires.numbers joined (rw c.walk_near.ensures.same_joined c.requires.joined) grid boxes ends told
