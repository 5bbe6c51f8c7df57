-- One slot more, which is listed or passed over.
use Rattle.std.proofs.Common.{◌≡◌, ◌+◌, ◌++◌, ◌∷◌, [], take, get_or, inl, arith}
use Rattle.std.proofs.lemmas.List.{take_more, take_all}
use Rattle.leg_sweep.proofs.Lists.{Contains-nil}
use Rattle.leg_route_access.specs.Steps.AccessToNet.{IsNodeAdmitted}
use Rattle.leg_route.proofs.EndSlots.{slot_listed, slot_passed}
use Rattle.leg_route.proofs.end_slots.push_ends.Goals as goal
use Rattle.leg_route.proofs.end_slots.push_ends.Goals.{then-not-passes_over+in_ok-push, else-not-passes_over}

pub loop-slot-preserved : goal.loop-slot-preserved
loop-slot-preserved g c =
    let grid = c.args.grid.now in
    let Open = IsNodeAdmitted c.args.table.now c.args.net in
    let firsts = c.args.firsts.now in
    let boxes = c.args.boxes.now in
    let piece = c.args.piece in
    let slots = c.args.slots.now in
    let before = c.args.list.now.ends.items in
    let now = c.loop-slot.list.ends.items in
    let i = c.loop-slot.slot-index in
    let slot = get_or slots i 0 in
    let more : take (i + 1) slots ≡ take i slots ++ slot ∷ [] = take_more slots i 0 (omega arith) in
    elim c.if-not-passes_over.branch [
      | then-not-passes_over+in_ok-push w ↦
          rw (w.list-is, more)
          (slot_listed grid Open firsts boxes piece (take i slots) before now c.loop-slot.invariant slot c.requires.first w.push.new.self.ends.items
          (rw w.bound-least.ensures at w.in_ok-push.ensures))
      | else-not-passes_over w ↦
          rw (w.list-is, more)
          (slot_passed grid Open firsts boxes piece (take i slots) before now c.loop-slot.invariant slot (c.passes_over.ensures w.if-not-passes_over.false))
    ]

pub returns : goal.returns
returns g c = rw (take_all c.loop-slot.slot-index c.args.slots.now (omega arith)) at c.loop-slot.invariant

pub loop-slot-init : goal.loop-slot-init
loop-slot-init g c = record { each = λ end has. inl has; still = λ end has. has; all = λ n has is_open. absurd (Contains-nil n has) }
