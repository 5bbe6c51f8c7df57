-- A marked component that has such a violation is one more, and any other none.
use Rattle.std.proofs.Common.{◌≡◌, length, refl, arith}
use Rattle.std.proofs.lemmas.Bool.{false≢true}
use Rattle.leg_place.specs.Among.{IsViolationAmong}
use Rattle.leg_place.specs.Steps.ComponentFault.{fault_of}
use Rattle.leg_place.proofs.ComponentFaults.{number_of_kind, names_marked}
use Rattle.leg_place.proofs.Listing.{listing_more, listing_skip, listing_end}
use Rattle.leg_place.proofs.faults.push_each.Goals as goal
use Rattle.leg_place.proofs.faults.push_each.Goals.{then-is_marked+then-holds+in_ok-push, else-is_marked, else-is_marked-via-then-is_marked+else-holds, else-is_marked-via-else-is_marked}

pub loop-i-preserved : goal.loop-i-preserved
loop-i-preserved g c =
    let design = c.args.design.now in
    let marks = c.args.marks.now in
    let kind = c.args.kind in
    let i = c.loop-i.i in
    let found = c.loop-i.found.items in
    let marked = names_marked kind marks i in
    elim c.if-is_marked.branch [
      | then-is_marked+then-holds+in_ok-push w ↦
          let named = marked.1 (w.if-is_marked.ensures.0 refl) in
          let holds : IsViolationAmong design marks (fault_of kind i) = record { holds = w.if-holds.ensures.0 refl; marked = named } in
          rw (w.found-is, w.in_ok-push.ensures.items, w.fault.ensures) (listing_more design marks kind i found holds c.loop-i.invariant)
      | else-is_marked w ↦
          let never : IsViolationAmong design marks (fault_of kind i) → ⊥ = λ held. elim w.else-is_marked.branch [
            | else-is_marked-via-then-is_marked+else-holds v ↦ false≢true (v.if-holds.ensures.1 held.holds)
            | else-is_marked-via-else-is_marked v ↦ false≢true (v.if-is_marked.ensures.1 (marked.0 held.marked))
          ] in
          rw w.found-is (listing_skip design marks kind i found never c.loop-i.invariant)
    ]

pub returns : goal.returns
returns g c =
    let design = c.args.design.now in
    let last : c.loop-i.i ≡ length design.components = rw (← c.components-i-end.ensures.is) (omega arith) in
    listing_end design c.args.marks.now (number_of_kind c.args.kind) c.loop-i.i last c.loop-i.found.items c.loop-i.invariant
