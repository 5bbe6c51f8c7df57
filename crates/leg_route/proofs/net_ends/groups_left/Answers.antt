-- One group more, which is within reach or isn't.
use Rattle.std.proofs.Common.{◌≡◌, ◌+◌, ◌++◌, ◌∷◌, [], ◌<◌, ◌≤◌, ℕ, take, get_or, arith}
use Rattle.std.proofs.lemmas.List.{take_more, take_all}
use Rattle.std.proofs.lemmas.List.Elements.{Contains-get_or}
use Rattle.leg_route.specs.declared.net_ends.EndGroup.{EndGroup}
use Rattle.leg_route.proofs.EndGroups.{no_group, within_more, within_skip, beyond_more, beyond_skip}
use Rattle.leg_route.proofs.net_ends.groups_left.Goals as goal
use Rattle.leg_route.proofs.net_ends.groups_left.Goals.{then-group-reach+in_ok-add_group, else-group-reach+in_ok-push}

pub add_group-requires-clause-group : goal.add_group-requires-clause-group
add_group-requires-clause-group g c =
    let far = c.args.far.now in
    let i : ℕ = c.loop-group.group-index in
    c.requires.groups (get_or far i no_group) (Contains-get_or far i no_group (omega (arith, c.loop-group-test.true)))

pub loop-group-preserved : goal.loop-group-preserved
loop-group-preserved g c =
    let grid = c.args.grid.now in
    let joined = c.args.joined.now in
    let boxes = c.args.boxes.now in
    let listed = c.args.listed.now in
    let far = c.args.far.now in
    let reach : ℕ = c.args.reach in
    let i : ℕ = c.loop-group.group-index in
    let group : EndGroup = get_or far i no_group in
    let more : take (i + 1) far ≡ take i far ++ group ∷ [] = take_more far i no_group (omega (arith, c.loop-group-test.true)) in
    let before = c.args.near.now.items in
    let near = c.loop-group.near.items in
    let left = c.loop-group.left.items in
    let so_far = c.loop-group.invariant in
    elim c.if-group-reach.branch [
      | then-group-reach+in_ok-add_group w ↦
          let low : group.least ≤ reach = omega (arith, w.if-group-reach.true) in
          rw (w.near-is, w.left-is, more)
          (record {
            near = within_more grid joined boxes listed reach (take i far) group before near so_far.near w.add_group.new.near.items low
                w.in_ok-add_group.ensures;
            left = beyond_skip reach (take i far) left group so_far.left low;
          })
      | else-group-reach+in_ok-push w ↦
          let beyond : reach < group.least = omega (arith, w.if-group-reach.false) in
          rw (w.near-is, w.left-is, more)
          (record {
            near = within_skip grid joined boxes listed reach (take i far) group before near so_far.near beyond;
            left = beyond_more reach (take i far) left group so_far.left w.push.new.self.items w.in_ok-push.ensures.items beyond;
          })
    ]

pub returns-clause-near : goal.returns-clause-near
returns-clause-near g c = rw (take_all c.loop-group.group-index c.args.far.now (omega arith)) at c.loop-group.invariant.near

pub returns-clause-left : goal.returns-clause-left
returns-clause-left g c = rw (take_all c.loop-group.group-index c.args.far.now (omega arith)) at c.loop-group.invariant.left
