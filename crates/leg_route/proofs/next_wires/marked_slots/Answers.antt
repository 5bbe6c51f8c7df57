-- One shape more, whose piece has the mark or hasn't; and the boxes in their order.
use Rattle.std.proofs.Common.{◌≡◌, ◌+◌, ◌++◌, ◌∷◌, [], ◌<◌, Some, slice_get, length, take, get_or, refl, true≢false, sym, ◌∙◌, arith}
use Rattle.std.proofs.lemmas.List.{take_more, take_all}
use Rattle.std.proofs.lemmas.List.Elements.{All-get_or}
use Rattle.std.proofs.lemmas.Option.{slice_get_read}
use Rattle.leg_route.specs.Steps.NetSlots.{AreMarkedSlots}
use Rattle.leg_route.proofs.NetSlots.{slots_more, slots_skip}
use Rattle.leg_route.proofs.next_wires.marked_slots.Goals as goal
use Rattle.leg_route.proofs.next_wires.marked_slots.Goals.{then-has_mark+in_ok-add_slots_in, else-has_mark}

pub loop-number-preserved : goal.loop-number-preserved
loop-number-preserved g c =
    let grid = c.args.grid.now in
    let shapes = c.args.shapes.now in
    let marks = c.args.marks.now in
    let mark = c.args.mark in
    let numbers = c.args.numbers.now in
    let boxes = c.loop-number.found.boxes.items in
    let slots = c.loop-number.found.slots.items in
    let done = c.loop-number.invariant in
    let i = c.loop-number.number-index in
    let k = get_or numbers i 0 in
    let shape = c.index-shapes-number.result in
    let within : k < length shapes = All-get_or (λ k. k < length shapes) numbers i 0 (omega arith) c.requires in
    let there : slice_get shapes k ≡ Some shape = slice_get_read shapes _ k shape refl within c.index-shapes-number.is in
    let more : take (i + 1) numbers ≡ take i numbers ++ k ∷ [] = take_more numbers i 0 (omega arith) in
    elim c.if-has_mark.branch [
      | then-has_mark+in_ok-add_slots_in w ↦
          rw (w.found-is, more)
          (slots_more grid shapes marks mark (take i numbers) boxes slots done k shape there w.add_slots_in.new.found.boxes.items
          w.add_slots_in.new.found.slots.items (c.has_mark.ensures.0 w.if-has_mark.true)
          w.in_ok-add_slots_in.ensures.added (rw w.in_ok-add_slots_in.was at (w.add_slots_in.ensures.within done.within))
          (rw w.in_ok-add_slots_in.was at (w.add_slots_in.ensures.boxed done.boxed)))
      | else-has_mark w ↦
          rw (w.found-is, more)
          (slots_skip grid shapes marks mark (take i numbers) boxes slots done k shape there
          (λ has. true≢false (sym (c.has_mark.ensures.1 has) ∙ w.if-has_mark.false)))
    ]

pub returns : goal.returns
returns g c =
    let numbers = c.args.numbers.now in
    let found = c.loop-number.found in
    let done : AreMarkedSlots c.args.grid.now c.args.shapes.now c.args.marks.now c.args.mark numbers found.boxes.items found.slots.items =
    rw (take_all c.loop-number.number-index numbers (omega arith)) at c.loop-number.invariant in
    let same = c.sort_boxes.ensures.slots in
    record { are = rw same done.are; within = rw same done.within; boxed = c.sort_boxes.ensures.boxed c.args.grid.now done.boxed }
