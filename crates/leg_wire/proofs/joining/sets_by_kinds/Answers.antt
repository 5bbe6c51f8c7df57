-- Some of the metal joins no more than all of it.
use Rattle.std.proofs.Common.{◌<◌, Contains}
use Rattle.std.proofs.lemmas.List.Elements.{All-contains, All-weaker}
use Rattle.leg_wire.specs.Steps.JoinSteps.{AreSomeJoined, AreSetsOf}
use Rattle.leg_wire.proofs.SomeMetal.{some_of_kinds}
use Rattle.leg_wire.proofs.joining.sets_by_kinds.Goals as goal

pub sets_of_metal-requires-clause-places : goal.sets_of_metal-requires-clause-places
sets_of_metal-requires-clause-places g c =
    let metal = c.args.metal.now in
    rw c.deref.ensures.value
    (All-weaker (Contains metal) (λ shape. shape.piece < c.args.count)
    (λ shape has. All-contains (λ shape. shape.piece < c.args.count) metal shape c.requires.places has) c.in_ok-kinds.kinds.items c.in_ok-kinds.ensures.among)

pub unite_alike-requires-clause-among : goal.unite_alike-requires-clause-among
unite_alike-requires-clause-among g c = rw c.deref-2.ensures.value c.in_ok-kinds.ensures.among

pub unite_alike-requires-clause-joined : goal.unite_alike-requires-clause-joined
unite_alike-requires-clause-joined g c =
    let sets = c.in_ok-sets.sets in
    let kinds = c.in_ok-kinds.kinds.items in
    let are : AreSetsOf kinds c.args.count sets = rw c.deref.ensures.value at c.in_ok-sets.ensures in
    let some : AreSomeJoined c.args.metal.now c.args.count sets = some_of_kinds kinds c.args.metal.now c.in_ok-kinds.ensures.among c.args.count sets are in
    rw some.size some
