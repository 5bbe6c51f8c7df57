-- One more shape of the net is metal of a piece, or it isn't.
use Rattle.std.proofs.Common.{◌≡◌, ◌+◌, ◌++◌, ◌∷◌, [], ◌<◌, Some, length, vec_len, slice_get, take, get_or, refl, sym, ◌∙◌, arith}
use Rattle.std.proofs.lemmas.Grind.{common_steps}
use Rattle.std.proofs.lemmas.List.{take_more, take_all}
use Rattle.std.proofs.lemmas.List.Elements.{Contains-get_or}
use Rattle.std.proofs.lemmas.Option.{slice_get_read, slice_get_within, none-some}
use Rattle.leg_rules.specs.Joins.Touch.{piece_count}
use Rattle.leg_wire.specs.NetShapes.{IsOfNet}
use Rattle.leg_wire.proofs.Touches.{piece_count-is}
use Rattle.leg_drc.proofs.MetalMarks.{marks_more, marks_skip, marks_all}
use Rattle.leg_drc.proofs.supply.pieces_with_metal.Goals as goal
use Rattle.leg_drc.proofs.supply.pieces_with_metal.Goals.{in-Some, in_default}

pub bounds-shapes-number : goal.bounds-shapes-number
bounds-shapes-number g c =
    let flat = c.args.flat.now in
    let numbers = c.args.numbers.now in
    let i = c.loop-number.number-index in
    let of_net : IsOfNet flat.shapes c.args.net (get_or numbers i 0) =
    c.requires.numbers.each (get_or numbers i 0) (Contains-get_or numbers i 0 (omega arith)) in
    rw c.shapes-shapes.ensures.is (slice_get_within flat.shapes (get_or numbers i 0) of_net.shape of_net.at)

pub index_mut-requires : goal.index_mut-requires
index_mut-requires g c =
    let counted : piece_count c.args.flat.now c.args.net ≡ c.pieces_of_net-count.result =
    piece_count-is c.args.flat.now c.args.net c.pieces_of_net-count.result c.pieces_of_net-count.ensures.is in
    let told = (c.piece_below.ensures c.in-Some.piece).0 c.in-Some.is in
    let size : vec_len c.loop-number.marks ≡ length c.loop-number.marks.items = grind (arith, common_steps) in
    omega (arith, told.1, counted, size, c.loop-number.invariant.count)

pub loop-number-preserved : goal.loop-number-preserved
loop-number-preserved g c =
    let flat = c.args.flat.now in
    let net = c.args.net in
    let numbers = c.args.numbers.now in
    let marks = c.loop-number.marks.items in
    let i = c.loop-number.number-index in
    let k = get_or numbers i 0 in
    let shape = c.index-shapes-number.result in
    let count = c.pieces_of_net-count.result in
    let counted : piece_count flat net ≡ count = piece_count-is flat net count c.pieces_of_net-count.ensures.is in
    let of_net : IsOfNet flat.shapes net k = c.requires.numbers.each k (Contains-get_or numbers i 0 (omega arith)) in
    let read : shape ≡ get_or flat.shapes k shape = rw c.shapes-shapes.ensures.is at c.index-shapes-number.is in
    let at : slice_get flat.shapes k ≡ Some shape = slice_get_read flat.shapes _ k shape refl (slice_get_within flat.shapes k of_net.shape of_net.at) read in
    let more : take (i + 1) numbers ≡ take i numbers ++ k ∷ [] = take_more numbers i 0 (omega arith) in
    elim c.match-piece_below.branch [
      | in-Some w ↦
          let told = (c.piece_below.ensures w.in-Some.piece).0 w.in-Some.is in
          let within : w.in-Some.piece < piece_count flat net = rw counted told.1 in
          rw (w.marks-is, more)
          (marks_more flat (piece_count flat net) (take i numbers) marks c.loop-number.invariant k shape at w.in-Some.piece told.0 within)
      | in_default w ↦
          rw (w.marks-is, more) (marks_skip flat (piece_count flat net) (take i numbers) marks c.loop-number.invariant k shape at
          (λ j piece below. none-some j (sym w.in_default.is ∙ (c.piece_below.ensures j).1 (piece, rw (← counted) below))))
    ]

pub returns-clause-marks : goal.returns-clause-marks
returns-clause-marks g c =
    let numbers = c.args.numbers.now in
    marks_all c.args.flat.now c.args.net numbers c.requires.numbers c.requires.proper c.loop-number.marks.items
    (rw (take_all c.loop-number.number-index numbers (omega arith)) at c.loop-number.invariant)

pub returns-clause-few : goal.returns-clause-few
returns-clause-few g c =
    let counted : piece_count c.args.flat.now c.args.net ≡ c.pieces_of_net-count.result =
    piece_count-is c.args.flat.now c.args.net c.pieces_of_net-count.result c.pieces_of_net-count.ensures.is in
    omega (arith, counted, c.loop-number.invariant.count)
