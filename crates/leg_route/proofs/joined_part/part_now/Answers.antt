-- What is kept grows with the pieces that have come, or is made anew.
use Rattle.std.proofs.Common.{◌≡◌, ◌≤◌, length, refl, arith}
use Rattle.std.proofs.lemmas.Result.{IfOk-weaker}
use Rattle.leg_rules.specs.Joins.Touch.{piece_count, AreJoined}
use Rattle.leg_wire.specs.PieceMarks.{AreMarks}
use Rattle.leg_wire.proofs.Touches.{piece_count-is}
use Rattle.leg_route_laws.proofs.Within.{numbers_within}
use Rattle.leg_route.specs.Steps.JoinedPart.{part_in}
use Rattle.leg_route.proofs.PartMarks.{come_within, marks_are, growing}
use Rattle.leg_route.proofs.joined_part.part_now.Goals as goal

pub mark_joined-requires-clause-few : goal.mark_joined-requires-clause-few
mark_joined-requires-clause-few g c =
    let flat = c.args.flat.now in
    let net = c.args.net in
    let count = piece_count-is flat net c.pieces_of_net.result c.pieces_of_net.ensures.is in
    let few : length c.args.part.joined.items ≤ piece_count flat net = rw c.requires.net at c.requires.part.few in
    omega (arith, few, count)

pub mark_joined-requires-clause-within : goal.mark_joined-requires-clause-within
mark_joined-requires-clause-within g c =
    let flat = c.args.flat.now in
    let net = c.args.net in
    let count = c.pieces_of_net.result in
    come_within c.args.grid.now flat net (part_in c.args.part) c.args.come.now c.requires.net c.requires.part c.requires.come count
    (piece_count-is flat net count c.pieces_of_net.ensures.is)

pub grown_part-requires : goal.grown_part-requires
grown_part-requires g c =
    let flat = c.args.flat.now in
    let net = c.args.net in
    let part = c.args.part in
    let after = c.mark_joined.new.joined.items in
    let count = c.pieces_of_net.result in
    let counted = piece_count-is flat net count c.pieces_of_net.ensures.is in
    let had_is : c.len-had.result ≡ length part.joined.items = omega (arith, c.len-had.ensures, part.joined.ok.0) in
    record {
      growing =
          growing c.args.grid.now flat net (part_in part) c.args.come.now c.requires.net c.requires.part c.requires.come count after counted
          c.in_ok-mark_joined.ensures c.args.numbers.now c.requires.numbers c.args.joins.now c.requires.of_net c.requires.joins
          (λ k from below. rw c.deref.ensures.value at (c.if-are_joined_from.ensures refl k (omega (arith, from, had_is)) (rw c.deref.ensures.value below)));
    }

pub new_part-requires-clause-numbers : goal.new_part-requires-clause-numbers
new_part-requires-clause-numbers g c = numbers_within c.args.flat.now.shapes c.args.net c.args.numbers.now c.requires.numbers

pub new_part-requires-clause-firsts : goal.new_part-requires-clause-firsts
new_part-requires-clause-firsts g c =
    rw c.deref-2.ensures.value (rw c.requires.of_net at (c.in_ok-firsts.ensures c.args.flat.now c.requires.joins))

pub new_part-requires-clause-marks : goal.new_part-requires-clause-marks
new_part-requires-clause-marks g c =
    let size = c.in_ok-mark_joined.ensures.size in
    let counted = piece_count-is c.args.flat.now c.args.net c.pieces_of_net.result c.pieces_of_net.ensures.is in
    omega (arith, size, counted)

pub returns-then-are_joined_from-clause-joined : goal.returns-then-are_joined_from-clause-joined
returns-then-are_joined_from-clause-joined g c =
    let flat = c.args.flat.now in
    let net = c.args.net in
    let after = c.mark_joined.new.joined.items in
    let count = c.pieces_of_net.result in
    let marks =
    marks_are c.args.grid.now flat net (part_in c.args.part) c.args.come.now c.requires.net c.requires.part c.requires.come count after
    (piece_count-is flat net count c.pieces_of_net.ensures.is) c.in_ok-mark_joined.ensures in
    IfOk-weaker c.grown_part.result (λ now. now.joined.items ≡ after) (λ now. AreMarks (AreJoined flat net 0) (piece_count flat net) now.joined.items)
    (λ now is. rw is marks) c.grown_part.ensures.joined

pub returns-clause-joined : goal.returns-clause-joined
returns-clause-joined g c =
    let flat = c.args.flat.now in
    let net = c.args.net in
    let after = c.mark_joined.new.joined.items in
    let count = c.pieces_of_net.result in
    let marks =
    marks_are c.args.grid.now flat net (part_in c.args.part) c.args.come.now c.requires.net c.requires.part c.requires.come count after
    (piece_count-is flat net count c.pieces_of_net.ensures.is) c.in_ok-mark_joined.ensures in
    IfOk-weaker c.new_part.result (λ now. now.joined.items ≡ after) (λ now. AreMarks (AreJoined flat net 0) (piece_count flat net) now.joined.items)
    (λ now is. rw is marks) c.new_part.ensures.joined
