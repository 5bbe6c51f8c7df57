-- One end more, whose piece is not joined or is.
use Rattle.std.proofs.Common.{◌≡◌, ◌+◌, ◌++◌, ◌∷◌, [], take, get_or, refl, sym, ◌∙◌, true≢false, arith}
use Rattle.std.proofs.lemmas.List.{take_more, take_all}
use Rattle.std.proofs.lemmas.Option.{same_Some}
use Rattle.leg_route.specs.declared.end_slots.EndSlot.{EndSlot}
use Rattle.leg_route.proofs.EndSlots.{left_more, left_skip}
use Rattle.leg_route.proofs.end_slots.ends_left.Goals as goal
use Rattle.leg_route.proofs.end_slots.ends_left.Goals.{then-has_mark+in_ok-push, else-has_mark}

pub loop-end-preserved : goal.loop-end-preserved
loop-end-preserved g c =
    let grid = c.args.grid.now in
    let joined = c.args.joined.now in
    let boxes = c.args.boxes.now in
    let ends = c.args.ends.now in
    let left = c.loop-end.left.items in
    let i = c.loop-end.end-index in
    let none : EndSlot = record { piece = 0; slot = 0; least = 0 } in
    let end : EndSlot = get_or ends i none in
    let more : take (i + 1) ends ≡ take i ends ++ end ∷ [] = take_more ends i none (omega arith) in
    elim c.if-has_mark.branch [
      | then-has_mark+in_ok-push w ↦
          let has = c.has_mark.ensures.0 w.if-has_mark.true in
          rw (w.left-is, more) (left_more grid joined boxes (take i ends) left c.loop-end.invariant end w.push.new.self.items
          (rw w.bound-least.ensures at w.in_ok-push.ensures.items) (rw (same_Some end.piece has.number has.is) has.marked))
      | else-has_mark w ↦
          rw (w.left-is, more) (left_skip grid joined boxes (take i ends) left c.loop-end.invariant end
          (λ apart. true≢false (sym (c.has_mark.ensures.1 (record { number = end.piece; is = refl; marked = apart })) ∙ w.if-has_mark.false)))
    ]

pub returns : goal.returns
returns g c = rw (take_all c.loop-end.end-index c.args.ends.now (omega arith)) at c.loop-end.invariant
