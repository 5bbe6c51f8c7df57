-- One end more, whose piece is not joined or is.
use Rattle.std.proofs.Common.{◌≡◌, ◌+◌, ◌≤◌, ℕ, Some, slice_get, get_or, refl, sym, ◌∙◌, true≢false, arith}
use Rattle.std.proofs.lemmas.Option.{same_Some, slice_get-get_or}
use Rattle.leg_route.specs.declared.end_slots.EndSlot.{EndSlot}
use Rattle.leg_route.specs.Steps.NetEnds.{IsInGroup}
use Rattle.leg_route.proofs.EndGroups.{no_end, come_more, come_skip}
use Rattle.leg_route.proofs.net_ends.add_group.Goals as goal
use Rattle.leg_route.proofs.net_ends.add_group.Goals.{then-has_mark+in_ok-push, else-has_mark}

pub bound-least-requires-clause-within : goal.bound-least-requires-clause-within
bound-least-requires-clause-within g c =
    let listed = c.args.listed.now in
    let group = c.args.group.now in
    let k : ℕ = c.loop-k.k in
    let room = c.requires.group.room in
    let from = c.loop-k.auto.k in
    let there : slice_get listed k ≡ Some (get_or listed k no_end) = slice_get-get_or listed k no_end (omega (arith, room, c.loop-k-test.true)) in
    let is_in : IsInGroup listed group (get_or listed k no_end) =
    record { k = k; from = omega (arith, from); below = omega (arith, c.loop-k-test.true); there = there } in
    (c.requires.group.each (get_or listed k no_end) is_in).within

pub loop-k-preserved : goal.loop-k-preserved
loop-k-preserved g c =
    let grid = c.args.grid.now in
    let joined = c.args.joined.now in
    let boxes = c.args.boxes.now in
    let listed = c.args.listed.now in
    let group = c.args.group.now in
    let near = c.args.near.now.items in
    let k : ℕ = c.loop-k.k in
    let room = c.requires.group.room in
    let from = c.loop-k.auto.k in
    let low : group.first ≤ k = omega (arith, from) in
    let end : EndSlot = get_or listed k no_end in
    let there : slice_get listed k ≡ Some end = slice_get-get_or listed k no_end (omega (arith, room, c.loop-k-test.true)) in
    let so_far = c.loop-k.invariant in
    elim c.if-has_mark.branch [
      | then-has_mark+in_ok-push w ↦
          let has = c.has_mark.ensures.0 w.if-has_mark.true in
          rw w.near-is
          (come_more grid joined boxes listed group.first k end low there near c.loop-k.near.items so_far w.push.new.self.items
          (rw w.bound-least.ensures at w.in_ok-push.ensures.items) (rw (same_Some end.piece has.number has.is) has.marked))
      | else-has_mark w ↦
          rw w.near-is
          (come_skip grid joined boxes listed group.first k end low there near c.loop-k.near.items so_far
          (λ apart. true≢false (sym (c.has_mark.ensures.1 (record { number = end.piece; is = refl; marked = apart })) ∙ w.if-has_mark.false)))
    ]

pub returns : goal.returns
returns g c =
    let all : c.loop-k.k ≡ c.args.group.now.first + c.args.group.now.count = omega (arith, c.loop-k.auto.k, c.loop-k.auto.k-end, c.loop-k-test.false) in
    rw all at c.loop-k.invariant
