-- One more shape of the net is metal of a piece, or it isn't.
use Rattle.std.proofs.Common.{◌≡◌, ◌+◌, ◌++◌, ◌∷◌, [], Some, slice_get, take, get_or, refl, arith}
use Rattle.std.proofs.lemmas.List.{take_more, take_all}
use Rattle.std.proofs.lemmas.List.Elements.{Contains-get_or}
use Rattle.std.proofs.lemmas.Option.{slice_get_read, slice_get_within}
use Rattle.leg_rules.specs.Joins.Touch.{piece_count}
use Rattle.leg_wire.specs.NetShapes.{IsOfNet}
use Rattle.leg_wire.proofs.NetNumbers.{few_numbers}
use Rattle.leg_wire.proofs.Touches.{piece_count-is}
use Rattle.leg_wire.proofs.PieceMetal.{among_more, among_skip, ArePieceShapes-among, whole_net}
use Rattle.leg_wire.proofs.piece_shape.metal_of_net.Goals as goal
use Rattle.leg_wire.proofs.piece_shape.metal_of_net.Goals.{in-Some+in_ok-push, in_default}

pub bounds-shapes-number : goal.bounds-shapes-number
bounds-shapes-number g c =
    let flat = c.args.flat.now in
    let numbers = c.args.numbers.now in
    let i = c.loop-number.number-index in
    let of_net : IsOfNet flat.shapes c.args.net (get_or numbers i 0) =
    c.requires.numbers.each (get_or numbers i 0) (Contains-get_or numbers i 0 (omega arith)) in
    rw c.shapes-shapes.ensures.is (slice_get_within flat.shapes (get_or numbers i 0) of_net.shape of_net.at)

pub loop-number-preserved : goal.loop-number-preserved
loop-number-preserved g c =
    let flat = c.args.flat.now in
    let net = c.args.net in
    let numbers = c.args.numbers.now in
    let pieces = c.loop-number.pieces.items in
    let i = c.loop-number.number-index in
    let k = get_or numbers i 0 in
    let shape = c.index-shapes-number.result in
    let count = c.pieces_of_net-count.result in
    let counted : piece_count flat net ≡ count = piece_count-is flat net count c.pieces_of_net-count.ensures.is in
    let of_net : IsOfNet flat.shapes net k = c.requires.numbers.each k (Contains-get_or numbers i 0 (omega arith)) in
    let read : shape ≡ get_or flat.shapes k shape = rw c.shapes-shapes.ensures.is at c.index-shapes-number.is in
    let at : slice_get flat.shapes k ≡ Some shape = slice_get_read flat.shapes _ k shape refl (slice_get_within flat.shapes k of_net.shape of_net.at) read in
    let more : take (i + 1) numbers ≡ take i numbers ++ k ∷ [] = take_more numbers i 0 (omega arith) in
    elim c.match-piece_shape.branch [
      | in-Some+in_ok-push w ↦
          rw (w.pieces-is, w.in_ok-push.ensures.items, more)
          (among_more flat net (take i numbers) pieces c.loop-number.invariant k shape at of_net count counted c.piece_shape.result c.piece_shape.ensures
          w.in-Some.piece w.in-Some.is)
      | in_default w ↦
          rw (w.pieces-is, more)
          (among_skip flat net (take i numbers) pieces c.loop-number.invariant k shape at of_net count counted c.piece_shape.result c.piece_shape.ensures
          w.in_default.is)
    ]

pub returns-clause-shapes : goal.returns-clause-shapes
returns-clause-shapes g c =
    ArePieceShapes-among c.args.flat.now c.args.net c.args.numbers.now c.loop-number.pieces.items c.requires.numbers
    (rw (take_all c.loop-number.number-index c.args.numbers.now (omega arith)) at c.loop-number.invariant)

pub returns-clause-few : goal.returns-clause-few
returns-clause-few g c =
    let flat = c.args.flat.now in
    let numbers = c.args.numbers.now in
    let few = few_numbers flat.shapes c.args.net numbers c.requires.numbers in
    let done = rw (take_all c.loop-number.number-index numbers (omega arith)) at c.loop-number.invariant in
    omega (arith, few, done.few, c.shapes-shapes.ensures.proper.shapes)

pub returns-clause-whole : goal.returns-clause-whole
returns-clause-whole g c same =
    let numbers = c.args.numbers.now in
    whole_net c.args.flat.now c.args.net numbers c.loop-number.pieces.items c.requires.numbers
    (rw (take_all c.loop-number.number-index numbers (omega arith)) at c.loop-number.invariant) same
