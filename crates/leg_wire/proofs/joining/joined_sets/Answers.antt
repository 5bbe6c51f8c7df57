-- The sets by all metal, or by one shape of each kind, where these join all pieces.
use Rattle.std.proofs.Common.{◌≡◌, All, IsTrue, refl}
use Rattle.std.proofs.lemmas.Result.{IfOk-weaker}
use Rattle.leg_rules.specs.Joins.Touch.{piece_count}
use Rattle.leg_wire.specs.Steps.JoinSteps.{AreSomeJoined, AreSetsOf, AreJoinedSets}
use Rattle.leg_wire.proofs.Touches.{piece_count-is, places_below, sets_of_net, sets_of_one, all_marked}
use Rattle.leg_wire.proofs.joining.joined_sets.Goals as goal

pub sets_by_kinds-requires-clause-places : goal.sets_by_kinds-requires-clause-places
sets_by_kinds-requires-clause-places g c =
    let flat = c.args.flat.now in
    let count = c.pieces_of_net-count.result in
    places_below flat c.args.net c.args.metal.now c.requires.metal count (piece_count-is flat c.args.net count c.pieces_of_net-count.ensures.is)

pub sets_of_metal-requires-clause-places : goal.sets_of_metal-requires-clause-places
sets_of_metal-requires-clause-places g c =
    let flat = c.args.flat.now in
    let count = c.pieces_of_net-count.result in
    places_below flat c.args.net c.args.metal.now c.requires.metal count (piece_count-is flat c.args.net count c.pieces_of_net-count.ensures.is)

pub returns-then-are_all_set : goal.returns-then-are_all_set
returns-then-are_all_set g c =
    let flat = c.args.flat.now in
    let net = c.args.net in
    let metal = c.args.metal.now in
    let count = c.pieces_of_net-count.result in
    let sets = c.in_ok-sets.sets in
    let counted : piece_count flat net ≡ count = piece_count-is flat net count c.pieces_of_net-count.ensures.is in
    let some : AreSomeJoined metal (piece_count flat net) sets = rw counted c.in_ok-sets.ensures in
    let set : All (λ mark. IsTrue mark) c.in_ok-marks.field-0.items = rw c.deref.ensures.value at (c.if-are_all_set.ensures refl) in
    sets_of_one flat net metal c.requires.metal sets some
    (all_marked sets (piece_count flat net) c.in_ok-marks.field-0.items some.size c.in_ok-marks.ensures set)

pub returns : goal.returns
returns g c =
    let flat = c.args.flat.now in
    let net = c.args.net in
    let metal = c.args.metal.now in
    let count = c.pieces_of_net-count.result in
    let counted : piece_count flat net ≡ count = piece_count-is flat net count c.pieces_of_net-count.ensures.is in
    IfOk-weaker c.sets_of_metal.result (λ sets. AreSetsOf metal count sets) (λ sets. AreJoinedSets flat net sets)
    (λ sets are. sets_of_net flat net metal c.requires.metal sets (rw counted are))
    c.sets_of_metal.ensures

pub sets_by_stand_ins-requires-clause-places : goal.sets_by_stand_ins-requires-clause-places
sets_by_stand_ins-requires-clause-places g c =
    let flat = c.args.flat.now in
    let count = c.pieces_of_net-count.result in
    places_below flat c.args.net c.args.metal.now c.requires.metal count (piece_count-is flat c.args.net count c.pieces_of_net-count.ensures.is)

pub returns-then-branch : goal.returns-then-branch
returns-then-branch g c =
    let flat = c.args.flat.now in
    let net = c.args.net in
    let metal = c.args.metal.now in
    let count = c.pieces_of_net-count.result in
    let counted : piece_count flat net ≡ count = piece_count-is flat net count c.pieces_of_net-count.ensures.is in
    IfOk-weaker c.sets_by_stand_ins.result (λ sets. AreSetsOf metal count sets) (λ sets. AreJoinedSets flat net sets)
    (λ sets are. sets_of_net flat net metal c.requires.metal sets (rw counted are))
    c.sets_by_stand_ins.ensures
