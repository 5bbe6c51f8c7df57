-- Groups come near, and a walk to a near end is a next one where no group is as near.
use Rattle.std.proofs.Common.{◌≡◌, ◌≤◌, length, Contains, arith}
use Rattle.std.proofs.lemmas.Bool.Decides.{nat_tests}
use Rattle.std.proofs.lemmas.List.{nil_from_length}
use Rattle.leg_route.specs.declared.net_ends.EndGroup.{EndGroup}
use Rattle.leg_route.specs.Steps.EndSlots.{MeetsPiece, IsFarSlot}
use Rattle.leg_route.specs.Steps.NetEnds.{ends_in}
use Rattle.leg_route.specs.Steps.NetSlots.{IsPartOf}
use Rattle.leg_route.proofs.NetEnds.{near_ends_within, near_ends_far}
use Rattle.leg_route.proofs.NearWalk.{search_from, near_is_next, near_answers, part_near, part_again}
use Rattle.leg_route.proofs.next_wires.walk_within.Goals as goal

pub walk_nearby-requires-clause-given : goal.walk_nearby-requires-clause-given
walk_nearby-requires-clause-given g c =
    let part = c.args.part.now in
    rw c.deref-4.ensures.value
    (search_from c.args.flat.now c.args.net c.args.numbers.now c.requires.numbers part.joined.items c.requires.joined c.args.grid.now part.slots.boxes.items
    part.slots.slots.items part.hulls.items (ends_in part.ends) c.requires.part c.args.slots.now c.requires.told)

pub walk_nearby-requires-clause-ends_within : goal.walk_nearby-requires-clause-ends_within
walk_nearby-requires-clause-ends_within g c =
    let grid = c.args.grid.now in
    let flat = c.args.flat.now in
    let net = c.args.net in
    let numbers = c.args.numbers.now in
    let old = c.args.part.now in
    let joined = old.joined.items in
    let boxes = old.slots.boxes.items in
    let starts = old.slots.slots.items in
    let hulls = old.hulls.items in
    let ends = c.bring_near.new.ends in
    let part : IsPartOf grid flat net joined numbers boxes starts hulls (ends_in ends) =
    part_near grid flat net joined numbers boxes starts hulls c.args.reach.now (ends_in old.ends) (ends_in ends) c.grid_is_sound.ensures.proper
    c.requires.joined (rw (c.deref.ensures.value, c.deref-2.ensures.value) at c.in_ok-bring_near.ensures) c.requires.part in
    rw c.deref_mut.ensures.value
    (near_ends_within grid flat net joined (MeetsPiece flat.shapes numbers) (IsFarSlot grid flat net boxes) (ends_in ends) part.ends_are)

pub walk_nearby-requires-clause-far : goal.walk_nearby-requires-clause-far
walk_nearby-requires-clause-far g c =
    let grid = c.args.grid.now in
    let flat = c.args.flat.now in
    let net = c.args.net in
    let numbers = c.args.numbers.now in
    let old = c.args.part.now in
    let joined = old.joined.items in
    let boxes = old.slots.boxes.items in
    let starts = old.slots.slots.items in
    let hulls = old.hulls.items in
    let ends = c.bring_near.new.ends in
    let part : IsPartOf grid flat net joined numbers boxes starts hulls (ends_in ends) =
    part_near grid flat net joined numbers boxes starts hulls c.args.reach.now (ends_in old.ends) (ends_in ends) c.grid_is_sound.ensures.proper
    c.requires.joined (rw (c.deref.ensures.value, c.deref-2.ensures.value) at c.in_ok-bring_near.ensures) c.requires.part in
    rw c.deref_mut.ensures.value
    (near_ends_far grid flat net joined (MeetsPiece flat.shapes numbers) (IsFarSlot grid flat net boxes) (ends_in ends) part.ends_are)

pub returns-then-is_empty-clause-answer : goal.returns-then-is_empty-clause-answer
returns-then-is_empty-clause-answer g c =
    let grid = c.args.grid.now in
    let flat = c.args.flat.now in
    let net = c.args.net in
    let numbers = c.args.numbers.now in
    let old = c.args.part.now in
    let joined = old.joined.items in
    let boxes = old.slots.boxes.items in
    let starts = old.slots.slots.items in
    let hulls = old.hulls.items in
    let ends = c.bring_near.new.ends in
    let part : IsPartOf grid flat net joined numbers boxes starts hulls (ends_in ends) =
    part_near grid flat net joined numbers boxes starts hulls c.args.reach.now (ends_in old.ends) (ends_in ends) c.grid_is_sound.ensures.proper
    c.requires.joined (rw (c.deref.ensures.value, c.deref-2.ensures.value) at c.in_ok-bring_near.ensures) c.requires.part in
    let empty : length ends.far.items ≡ 0 = grind (arith, nat_tests, c.is_empty.ensures, c.if-is_empty.true, ends.far.ok.0) in
    near_answers flat net numbers c.requires.numbers joined c.requires.joined grid boxes starts hulls (ends_in ends) part _ _
    (rw c.deref_mut.ensures.value at c.in_ok-walk.ensures.answer) (nil_from_length ends.far.items empty)

pub returns-then-is_empty-clause-part : goal.returns-then-is_empty-clause-part
returns-then-is_empty-clause-part g c =
    let grid = c.args.grid.now in
    let flat = c.args.flat.now in
    let net = c.args.net in
    let numbers = c.args.numbers.now in
    let old = c.args.part.now in
    let joined = old.joined.items in
    let boxes = old.slots.boxes.items in
    let starts = old.slots.slots.items in
    let hulls = old.hulls.items in
    let ends = c.bring_near.new.ends in
    let part : IsPartOf grid flat net joined numbers boxes starts hulls (ends_in ends) =
    part_near grid flat net joined numbers boxes starts hulls c.args.reach.now (ends_in old.ends) (ends_in ends) c.grid_is_sound.ensures.proper
    c.requires.joined (rw (c.deref.ensures.value, c.deref-2.ensures.value) at c.in_ok-bring_near.ensures) c.requires.part in
    part_again grid flat net joined numbers boxes starts hulls ends.near.items c.walk_nearby.new.ends ends.listed.items ends.far.items ends.near.len
    (omega (arith, ends.near.ok.0)) (rw c.deref_mut.ensures.value at c.walk_nearby.ensures.same) c.walk_nearby.ensures.far part

pub returns-then-len-least-clause-answer : goal.returns-then-len-least-clause-answer
returns-then-len-least-clause-answer g c =
    let grid = c.args.grid.now in
    let flat = c.args.flat.now in
    let net = c.args.net in
    let numbers = c.args.numbers.now in
    let old = c.args.part.now in
    let joined = old.joined.items in
    let boxes = old.slots.boxes.items in
    let starts = old.slots.slots.items in
    let hulls = old.hulls.items in
    let ends = c.bring_near.new.ends in
    let part : IsPartOf grid flat net joined numbers boxes starts hulls (ends_in ends) =
    part_near grid flat net joined numbers boxes starts hulls c.args.reach.now (ends_in old.ends) (ends_in ends) c.grid_is_sound.ensures.proper
    c.requires.joined (rw (c.deref.ensures.value, c.deref-2.ensures.value) at c.in_ok-bring_near.ensures) c.requires.part in
    let nodes = c.in-Some.nodes in
    let beyond : (group : EndGroup) → Contains ends.far.items group → length nodes.items ≤ group.least = λ group has.
    let least = c.least_far-least.ensures group (rw c.deref-5.ensures.value has) in
    omega (arith, least, c.if-len-least.true, c.len.ensures, nodes.ok.0) in
    near_is_next flat net numbers c.requires.numbers joined c.requires.joined grid boxes starts hulls (ends_in ends) part nodes.items
    (rw (c.in-Some.is, c.deref_mut.ensures.value) at c.in_ok-walk.ensures.answer) beyond

pub returns-then-len-least-clause-part : goal.returns-then-len-least-clause-part
returns-then-len-least-clause-part g c =
    let grid = c.args.grid.now in
    let flat = c.args.flat.now in
    let net = c.args.net in
    let numbers = c.args.numbers.now in
    let old = c.args.part.now in
    let joined = old.joined.items in
    let boxes = old.slots.boxes.items in
    let starts = old.slots.slots.items in
    let hulls = old.hulls.items in
    let ends = c.bring_near.new.ends in
    let part : IsPartOf grid flat net joined numbers boxes starts hulls (ends_in ends) =
    part_near grid flat net joined numbers boxes starts hulls c.args.reach.now (ends_in old.ends) (ends_in ends) c.grid_is_sound.ensures.proper
    c.requires.joined (rw (c.deref.ensures.value, c.deref-2.ensures.value) at c.in_ok-bring_near.ensures) c.requires.part in
    part_again grid flat net joined numbers boxes starts hulls ends.near.items c.walk_nearby.new.ends ends.listed.items ends.far.items ends.near.len
    (omega (arith, ends.near.ok.0)) (rw c.deref_mut.ensures.value at c.walk_nearby.ensures.same) c.walk_nearby.ensures.far part

pub returns-clause-part : goal.returns-clause-part
returns-clause-part g c =
    let grid = c.args.grid.now in
    let flat = c.args.flat.now in
    let net = c.args.net in
    let numbers = c.args.numbers.now in
    let old = c.args.part.now in
    let joined = old.joined.items in
    let boxes = old.slots.boxes.items in
    let starts = old.slots.slots.items in
    let hulls = old.hulls.items in
    let ends = c.bring_near.new.ends in
    let part : IsPartOf grid flat net joined numbers boxes starts hulls (ends_in ends) =
    part_near grid flat net joined numbers boxes starts hulls c.args.reach.now (ends_in old.ends) (ends_in ends) c.grid_is_sound.ensures.proper
    c.requires.joined (rw (c.deref.ensures.value, c.deref-2.ensures.value) at c.in_ok-bring_near.ensures) c.requires.part in
    part_again grid flat net joined numbers boxes starts hulls ends.near.items c.walk_nearby.new.ends ends.listed.items ends.far.items ends.near.len
    (omega (arith, ends.near.ok.0)) (rw c.deref_mut.ensures.value at c.walk_nearby.ensures.same) c.walk_nearby.ensures.far part
