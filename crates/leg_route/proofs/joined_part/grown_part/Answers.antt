use Rattle.std.proofs.Common.{◌≡◌, ◌++◌, ◌-◌, true, length, take, drop, ◌∙◌, arith}
use Rattle.leg_route.specs.Steps.EndSlots.{MeetsPiece, IsFarSlot}
use Rattle.leg_route.specs.Steps.NetEnds.{ends_in, AreGroupsFrom}
use Rattle.leg_route.specs.Steps.NetSlots.{AreMarkedSlots}
use Rattle.leg_route.proofs.EndSlots.{was_apart, come_are, come_boxes, all_new}
use Rattle.leg_route.specs.Steps.JoinedPart.{part_in}
use Rattle.leg_route.proofs.NetEnds.{near_ends_within, ends_grown}
use Rattle.leg_route.proofs.PartMarks.{starts_grown}
use Rattle.leg_route.proofs.joined_part.grown_part.Goals as goal

pub add_hulls-requires : goal.add_hulls-requires
add_hulls-requires g c =
    let got = c.in_ok-add_pieces.ensures in
    (c.args.part.slots.boxes.items, got.more, c.deref.ensures.value ∙ got.behind, c.requires.growing.had.hulled)

pub ends_left-requires-clause-within : goal.ends_left-requires-clause-within
ends_left-requires-clause-within g c =
    let part = c.args.part in
    let grid = c.args.grid.now in
    let flat = c.args.flat.now in
    let growing = c.requires.growing in
    rw c.deref-3.ensures.value
    (near_ends_within grid flat part.net growing.before (MeetsPiece flat.shapes c.args.numbers.now) (IsFarSlot grid flat part.net part.slots.boxes.items)
    (ends_in part.ends) growing.had.ends_are)

pub ends_left-requires-clause-boxes : goal.ends_left-requires-clause-boxes
ends_left-requires-clause-boxes g c =
    let part = c.args.part in
    let old = part.slots.boxes in
    let got = c.in_ok-add_pieces.ensures in
    let new = c.add_pieces.new.found in
    let starts : AreMarkedSlots c.args.grid.now c.args.flat.now.shapes part.joined.items true c.args.numbers.now new.boxes.items new.slots.items =
    starts_grown c.args.grid.now c.args.flat.now c.args.numbers.now c.args.joins.now.metal c.args.come.now (part_in part) c.requires.growing
    new.boxes.items new.slots.items got in
    let all = c.deref-2.result.now in
    let all_is : all ≡ old.items ++ got.more = c.deref-2.ensures.value ∙ got.behind in
    let first_is : c.len-first.result ≡ length old.items = omega (arith, c.len-first.ensures, old.ok.0) in
    rw (come_are all old.items got.more c.len-first.result all_is first_is)
    (come_boxes c.args.grid.now new.boxes.items old.items got.more got.behind starts.boxed.corners)

pub returns-clause-is : goal.returns-clause-is
returns-clause-is g c =
    let part = c.args.part in
    let old = part.slots.boxes in
    let joined = part.joined.items in
    let growing = c.requires.growing in
    let got = c.in_ok-add_pieces.ensures in
    let new = c.add_pieces.new.found in
    let all = c.deref-2.result.now in
    let all_is : all ≡ old.items ++ got.more = c.deref-2.ensures.value ∙ got.behind in
    let first_is : c.len-first.result ≡ length old.items = omega (arith, c.len-first.ensures, old.ok.0) in
    let come : take (length all - c.len-first.result) (drop c.len-first.result all) ≡ got.more =
    come_are all old.items got.more c.len-first.result all_is first_is in
    let far = c.note_boxes.new.far in
    let groups : AreGroupsFrom got.more part.ends.far.items far = rw (come, c.deref_mut.ensures.value) at c.note_boxes.ensures in
    let long : length far ≡ part.ends.far.len = omega (arith, groups.one_each, part.ends.far.ok.0) in
    let kept : take part.ends.far.len (far ++ drop (length far) part.ends.far.items) ≡ far = all_new far part.ends.far.items part.ends.far.len long in
    record {
      starts = starts_grown c.args.grid.now c.args.flat.now c.args.numbers.now c.args.joins.now.metal c.args.come.now (part_in part) growing
          new.boxes.items new.slots.items got;
      hulled = rw c.deref.ensures.value at c.in_ok-add_hulls.ensures;
      ends_are = rw kept
          (ends_grown c.args.grid.now c.args.flat.now part.net c.grid_is_sound.ensures.proper growing.before joined
          (MeetsPiece c.args.flat.now.shapes c.args.numbers.now) old.items got.more (ends_in part.ends) c.in_ok-ends.field-0.items far growing.marks
          (was_apart growing.before joined growing.still growing.later) growing.long growing.had.ends_are
          (rw (come, c.deref-3.ensures.value, c.deref-4.ensures.value) at c.in_ok-ends.ensures) groups new.boxes.items got.behind);
    }
