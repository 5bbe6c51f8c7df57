use Rattle.std.proofs.Common.{arith}
use Rattle.leg_route.specs.Steps.EndSlots.{IsApart, MeetsPiece, IsBoundFrom, AreEndSlots}
use Rattle.leg_route_access.specs.Steps.AccessToNet.{IsNodeAdmitted}
use Rattle.leg_route_access.proofs.AccessSteps.{node_admitted}
use Rattle.leg_route.specs.Steps.NetEnds.{ends_in}
use Rattle.leg_route.proofs.EndSlots.{ends_within, first_joined}
use Rattle.leg_route.proofs.NetEnds.{ends_kept_all}
use Rattle.leg_route.proofs.joined_part.new_part.Goals as goal

pub ends_of-requires-clause-firsts : goal.ends_of-requires-clause-firsts
ends_of-requires-clause-firsts g c =
    let marks = c.requires.marks in
    let firsts = c.requires.firsts.count in
    rw c.deref-3.ensures.value (omega (arith, marks, firsts))

pub net_ends-requires : goal.net_ends-requires
net_ends-requires g c = record {
  within = ends_within c.args.grid.now (IsApart c.deref-3.result.now) (MeetsPiece c.shapes-shapes.result.now c.args.numbers.now)
      (IsNodeAdmitted c.args.table.now c.args.net) (IsBoundFrom c.args.grid.now c.deref-4.result.now) c.args.firsts.now c.in_ok-ends.ends.items
      c.in_ok-ends.ensures;
}

pub returns-clause-is : goal.returns-clause-is
returns-clause-is g c =
    let grid = c.args.grid.now in
    let flat = c.args.flat.now in
    let net = c.args.net in
    let table = c.args.table.now in
    let firsts = c.args.firsts.now in
    let boxes = c.in_ok-slots.slots.boxes.items in
    let ends = c.in_ok-ends.ends.items in
    let listed : AreEndSlots grid (IsApart c.args.joined.items) (MeetsPiece flat.shapes c.args.numbers.now) (IsNodeAdmitted table net) (IsBoundFrom grid boxes)
    firsts ends = rw (c.shapes-shapes.ensures.is, c.deref-3.ensures.value, c.deref-4.ensures.value) at c.in_ok-ends.ensures in
    record {
      starts = rw (c.shapes-shapes.ensures.is, c.deref.ensures.value) at c.in_ok-slots.ensures;
      hulled = rw c.deref-2.ensures.value at c.in_ok-hulls.ensures;
      ends_are = ends_kept_all grid flat net c.args.joined.items (MeetsPiece flat.shapes c.args.numbers.now) (IsNodeAdmitted table net) boxes firsts ends
          (ends_in c.in_ok-ends-2.ends) c.grid_is_sound.ensures.proper (λ n. (node_admitted grid flat table c.requires.told net n).1)
          (first_joined flat net firsts c.requires.firsts) listed c.in_ok-ends-2.ensures;
    }
