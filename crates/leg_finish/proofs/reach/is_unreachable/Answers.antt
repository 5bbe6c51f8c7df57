use Rattle.std.proofs.Common.{true, false}
use Rattle.leg_rules.specs.Finish.Reach.{MeetsJoinedTo, MeetsOthers}
use Rattle.leg_finish.specs.Steps.GroupSlots.{IsJoinedAs, AreSlotsOf}
use Rattle.leg_route_laws.proofs.Within.{numbers_within}
use Rattle.leg_finish.proofs.GroupNodes.{known_within, starts_are, ends_are}
use Rattle.leg_finish.proofs.Ways.{same_way}
use Rattle.leg_finish.proofs.reach.is_unreachable.Goals as goal

pub group_slots-requires : goal.group_slots-requires
group_slots-requires g c =
    rw (c.shapes-shapes.ensures.is, c.as_slice-numbers.ensures)
    (numbers_within c.args.flat.now.shapes c.args.net.now.net c.args.net.now.shapes c.requires.is_open.shapes)

pub group_slots-requires-2 : goal.group_slots-requires-2
group_slots-requires-2 g c =
    rw (c.shapes-shapes.ensures.is, c.as_slice-numbers.ensures)
    (numbers_within c.args.flat.now.shapes c.args.net.now.net c.args.net.now.shapes c.requires.is_open.shapes)

pub returns-clause-unreachable : goal.returns-clause-unreachable
returns-clause-unreachable g c =
    let grid = c.args.grid.now in
    let flat = c.args.flat.now in
    let net = c.args.net.now.net in
    let numbers = c.args.net.now.shapes in
    let firsts = c.args.net.now.firsts in
    let first = c.args.first in
    let own = c.requires.least in
    let is = c.requires.is_open in
    let back = c.joined_both_ways.ensures flat net in
    let onward = c.joined_onward.ensures flat net in
    let near = c.in_ok-starts.starts in
    let far = c.in_ok-ends.ends in
    let proper = c.grid_is_sound.ensures.proper in
    let law = c.nodes_have_numbers.ensures in
    let from : AreSlotsOf grid flat.shapes (IsJoinedAs firsts first true) numbers near.boxes.items near.slots.items =
    rw (c.shapes-shapes.ensures.is, c.as_slice-numbers.ensures, c.as_slice-firsts.ensures) at c.in_ok-starts.ensures in
    let to : AreSlotsOf grid flat.shapes (IsJoinedAs firsts first false) numbers far.boxes.items far.slots.items =
    rw (c.shapes-shapes.ensures.is, c.as_slice-numbers.ensures, c.as_slice-firsts.ensures) at c.in_ok-ends.ensures in
    let same =
    same_way grid (λ n a b. law.apart grid n a b proper) (λ a is_node. law.some grid a proper is_node) flat net near.slots.items far.slots.items
    (MeetsJoinedTo flat net first)
    (MeetsOthers flat net first) (starts_are flat net firsts is.firsts back onward first own numbers is.shapes grid near.boxes.items near.slots.items from)
    (ends_are flat net firsts is.firsts back onward first own numbers is.shapes grid far.boxes.items far.slots.items to) in
    let told = c.in_ok-none.ensures.none in (
      λ holds. record { is_open = is.is_open; there = known_within flat net firsts is.firsts back onward first first own; none = same.0 (told.0 holds) },
      λ unreachable. told.1 (same.1 unreachable.none),
    )
