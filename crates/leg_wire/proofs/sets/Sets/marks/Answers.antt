-- A number has its parent's mark, and one that is its own parent has one where it is 0.
use Rattle.std.proofs.Common.{◌≡◌, ◌<◌, false, length, get_or, nat_eq, ◌∙◌, arith}
use Rattle.std.proofs.lemmas.List.{get_or_read}
use Rattle.leg_wire.specs.Steps.NumberSets.{AreParents, roots_of}
use Rattle.leg_wire.proofs.SetUnions.{mark_by_parent, mark_of_own, marks_more, marks_done}
use Rattle.leg_wire.proofs.sets.Sets.marks.Goals as goal
use Rattle.leg_wire.proofs.sets.Sets.marks.Goals.{then-parent-number, else-parent-number}

pub loop-number-preserved : goal.loop-number-preserved
loop-number-preserved g c =
    let parents = c.as_slice-parents.result.now in
    let forest : AreParents parents = rw c.as_slice-parents.ensures.value c.self.invariant in
    let k = c.loop-number.number in
    let marks = c.loop-number.marks.items in
    let done = c.loop-number.invariant in
    let within : k < length parents = omega arith in
    let is : c.if-parent-number.with_first ≡ nat_eq (get_or (roots_of parents) k 0) 0 =
    elim c.if-parent-number.branch [
      | then-parent-number w ↦
          let low : get_or parents k 0 < k = w.if-parent-number.true in
          let many : length marks ≡ k = done.many in
          w.with_first-is ∙ get_or_read marks (get_or parents k 0) w.index.result.now (omega (arith, low, many)) w.index.ensures false
          ∙ mark_by_parent parents forest k marks done within low
      | else-parent-number w ↦ w.with_first-is ∙ mark_of_own parents forest k within w.if-parent-number.false
    ] in
    rw c.in_ok-push.ensures.items (marks_more parents forest k marks c.if-parent-number.with_first done is)

pub returns : goal.returns
returns g c =
    let parents = c.as_slice-parents.result.now in
    let forest : AreParents parents = rw c.as_slice-parents.ensures.value c.self.invariant in
    let all : c.loop-number.number ≡ length parents = omega arith in
    rw (← c.self.view_is, ← c.as_slice-parents.ensures.value)
    (marks_done parents forest c.loop-number.number c.loop-number.marks.items all c.loop-number.invariant)
