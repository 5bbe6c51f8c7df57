use Rattle.std.proofs.Common.{◌≡◌, ◌+◌, ◌++◌, ◌∷◌, [], take, get_or, min, arith}
use Rattle.std.proofs.Math.Nat.{min-le_left, min-le_right}
use Rattle.std.proofs.lemmas.List.{take_more, take_all}
use Rattle.leg_route.specs.declared.net_ends.EndGroup.{EndGroup}
use Rattle.leg_route.proofs.EndGroups.{no_group, least_next}
use Rattle.leg_route.proofs.net_ends.least_far.Goals as goal

pub loop-group-preserved : goal.loop-group-preserved
loop-group-preserved c =
    let far = c.args.far.now in
    let i = c.loop-group.group-index in
    let group : EndGroup = get_or far i no_group in
    let more : take (i + 1) far ≡ take i far ++ group ∷ [] = take_more far i no_group (omega arith) in
    let first = min-le_left c.loop-group.least group.least in
    let second = min-le_right c.loop-group.least group.least in
    rw (more, c.min-least.ensures) (least_next (take i far) group c.loop-group.least (min c.loop-group.least group.least) c.loop-group.invariant first second)

pub returns : goal.returns
returns c = rw (take_all c.loop-group.group-index c.args.far.now (omega arith)) at c.loop-group.invariant
