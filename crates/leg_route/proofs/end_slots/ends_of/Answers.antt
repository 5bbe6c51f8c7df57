-- One shape more, whose piece is not joined or is.
use Rattle.std.proofs.Common.{◌≡◌, ◌+◌, ◌++◌, ◌∷◌, [], ◌<◌, false, Some, slice_get, length, take, get_or, refl, sym, ◌∙◌, true≢false, ap, arith}
use Rattle.std.proofs.lemmas.List.{take_more, take_all}
use Rattle.std.proofs.lemmas.List.Elements.{All-get_or}
use Rattle.std.proofs.lemmas.Option.{slice_get_within, slice_get_read}
use Rattle.leg_route_access.specs.Steps.AccessToNet.{IsNodeAdmitted}
use Rattle.leg_route.proofs.EndSlots.{ends_more, ends_skip}
use Rattle.leg_route.proofs.end_slots.ends_of.Goals as goal
use Rattle.leg_route.proofs.end_slots.ends_of.Goals.{then-has_mark+in_ok-add_ends, else-has_mark}

pub add_ends-requires-clause-first : goal.add_ends-requires-clause-first
add_ends-requires-clause-first g c =
    let has = c.has_mark.ensures.0 c.if-has_mark.true in
    let same : c.unwrap_or-piece.result ≡ has.number = rw has.is at c.unwrap_or-piece.ensures in
    let low = slice_get_within c.args.joined.now has.number false has.marked in
    let few = c.requires.firsts in
    rw same (omega (arith, low, few))

pub loop-number-preserved : goal.loop-number-preserved
loop-number-preserved g c =
    let grid = c.args.grid.now in
    let shapes = c.args.shapes.now in
    let joined = c.args.joined.now in
    let numbers = c.args.numbers.now in
    let boxes = c.args.boxes.now in
    let firsts = c.args.firsts.now in
    let Open = IsNodeAdmitted c.args.table.now c.args.net in
    let ends = c.loop-number.list.ends.items in
    let done = c.loop-number.invariant in
    let i = c.loop-number.number-index in
    let k = get_or numbers i 0 in
    let shape = c.index-shapes-number.result in
    let within : k < length shapes = All-get_or (λ k. k < length shapes) numbers i 0 (omega arith) c.requires.numbers in
    let there : slice_get shapes k ≡ Some shape = slice_get_read shapes _ k shape refl within c.index-shapes-number.is in
    let more : take (i + 1) numbers ≡ take i numbers ++ k ∷ [] = take_more numbers i 0 (omega arith) in
    elim c.if-has_mark.branch [
      | then-has_mark+in_ok-add_ends w ↦
          let has = c.has_mark.ensures.0 w.if-has_mark.true in
          let same : w.unwrap_or-piece.result ≡ has.number = rw has.is at w.unwrap_or-piece.ensures in
          rw (w.list-is, more)
          (ends_more grid joined shapes (take i numbers) Open firsts boxes ends done k shape there w.unwrap_or-piece.result (has.is ∙ ap Some (sym same))
          (rw same has.marked) w.add_ends.new.list.ends.items w.in_ok-add_ends.ensures)
      | else-has_mark w ↦
          rw (w.list-is, more)
          (ends_skip grid joined shapes (take i numbers) Open firsts boxes ends done k shape there
          (λ piece of_piece apart. true≢false (sym (c.has_mark.ensures.1 (record { number = piece; is = of_piece; marked = apart })) ∙ w.if-has_mark.false)))
    ]

pub returns : goal.returns
returns g c = rw (take_all c.loop-number.number-index c.args.numbers.now (omega arith)) at c.loop-number.invariant
