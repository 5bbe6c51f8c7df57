-- One shape more, whose piece is meant or isn't.
use Rattle.std.proofs.Common.{◌≡◌, ◌+◌, ◌++◌, ◌∷◌, [], ℕ, ◌<◌, Option, Some, slice_get, length, take, get_or, refl, true≢false, sym, ◌∙◌, arith}
use Rattle.std.proofs.lemmas.List.{take_more}
use Rattle.std.proofs.lemmas.List.Elements.{All-get_or}
use Rattle.std.proofs.lemmas.Option.{slice_get_read}
use Rattle.leg_finish.specs.Steps.GroupSlots.{IsJoinedAs}
use Rattle.leg_finish.proofs.GroupSlots.{slots_more, slots_skip}
use Rattle.leg_finish.proofs.group_slots.group_slots.Goals as goal
use Rattle.leg_finish.proofs.group_slots.group_slots.Goals.{then-is_joined_as+in_ok-add_slots_in, else-is_joined_as}

pub loop-number-preserved : goal.loop-number-preserved
loop-number-preserved g c =
    let grid = c.args.grid.now in
    let shapes = c.args.shapes.now in
    let meant : Option ℕ → Type 0 = IsJoinedAs c.args.firsts.now c.args.first c.args.is_joined in
    let numbers = c.args.numbers.now in
    let boxes = c.loop-number.found.boxes.items in
    let slots = c.loop-number.found.slots.items in
    let done = c.loop-number.invariant in
    let i = c.loop-number.number-index in
    let k = get_or numbers i 0 in
    let shape = c.index-shapes-number.result in
    let within : k < length shapes = All-get_or (λ k. k < length shapes) numbers i 0 (omega arith) c.requires in
    let there : slice_get shapes k ≡ Some shape = slice_get_read shapes _ k shape refl within c.index-shapes-number.is in
    let more : take (i + 1) numbers ≡ take i numbers ++ k ∷ [] = take_more numbers i 0 (omega arith) in
    elim c.if-is_joined_as.branch [
      | then-is_joined_as+in_ok-add_slots_in w ↦
          rw (w.found-is, more)
          (slots_more grid shapes meant (take i numbers) boxes slots done k shape there w.add_slots_in.new.found.boxes.items
          w.add_slots_in.new.found.slots.items
          (c.is_joined_as.ensures.0 w.if-is_joined_as.true) w.in_ok-add_slots_in.ensures.added
          (rw w.in_ok-add_slots_in.was at (w.add_slots_in.ensures.within done.within))
          (rw w.in_ok-add_slots_in.was at (w.add_slots_in.ensures.boxed done.boxed)))
      | else-is_joined_as w ↦
          rw (w.found-is, more)
          (slots_skip grid shapes meant (take i numbers) boxes slots done k shape there
          (λ has. true≢false (sym (c.is_joined_as.ensures.1 has) ∙ w.if-is_joined_as.false)))
    ]
