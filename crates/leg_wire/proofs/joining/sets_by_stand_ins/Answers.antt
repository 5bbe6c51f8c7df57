-- The metal that stays, and one shape of each kind, join as all of it does.
use Rattle.std.proofs.Common.{◌<◌, Contains, length}
use Rattle.std.proofs.lemmas.List.Elements.{All-contains, All-weaker}
use Rattle.leg_wire.specs.Steps.JoinSteps.{AreSomeJoined, AreSetsOf, AreTogetherAlike, AreStaying, IsStayingMetal}
use Rattle.leg_wire.proofs.SomeMetal.{some_of_kinds}
use Rattle.leg_wire.proofs.StandIns.{sets_of_stand_ins}
use Rattle.leg_wire.proofs.joining.sets_by_stand_ins.Goals as goal

pub staying_metal-requires-clause-kinds : goal.staying_metal-requires-clause-kinds
staying_metal-requires-clause-kinds g c = rw (c.deref-6.ensures.value, c.deref-7.ensures.value) c.in_ok-kinds.ensures

pub sets_of_metal-requires-clause-places : goal.sets_of_metal-requires-clause-places
sets_of_metal-requires-clause-places g c =
    let metal = c.args.metal.now in
    let rest = c.in_ok-rest.rest.items in
    let is_rest : IsStayingMetal metal c.in_ok-kinds.kinds.items c.in_ok-staying.staying.items (length metal) rest =
    rw (c.deref-6.ensures.value, c.deref-8.ensures.value) at c.in_ok-rest.ensures in
    rw c.deref-9.ensures.value
    (All-weaker (Contains metal) (λ shape. shape.piece < c.args.count)
    (λ shape has. All-contains (λ shape. shape.piece < c.args.count) metal shape c.requires.places has) rest is_rest.among)

pub unite_alike-requires-clause-among : goal.unite_alike-requires-clause-among
unite_alike-requires-clause-among g c = rw c.deref-10.ensures.value c.in_ok-kinds.ensures.among

pub unite_alike-requires-clause-joined : goal.unite_alike-requires-clause-joined
unite_alike-requires-clause-joined g c =
    let metal = c.args.metal.now in
    let sets = c.in_ok-sets.sets in
    let rest = c.in_ok-rest.rest.items in
    let is_rest : IsStayingMetal metal c.in_ok-kinds.kinds.items c.in_ok-staying.staying.items (length metal) rest =
    rw (c.deref-6.ensures.value, c.deref-8.ensures.value) at c.in_ok-rest.ensures in
    let are : AreSetsOf rest c.args.count sets = rw c.deref-9.ensures.value at c.in_ok-sets.ensures in
    let some : AreSomeJoined metal c.args.count sets = some_of_kinds rest metal is_rest.among c.args.count sets are in
    rw some.size some

pub returns : goal.returns
returns g c =
    let metal = c.args.metal.now in
    let count = c.args.count in
    let sets = c.in_ok-sets.sets in
    let after = c.unite_alike.new.sets in
    let kinds = c.in_ok-kinds.kinds.items in
    let numbers = c.in_ok-kinds.numbers.items in
    let rest = c.in_ok-rest.rest.items in
    let is_rest : IsStayingMetal metal kinds c.in_ok-staying.staying.items (length metal) rest =
    rw (c.deref-6.ensures.value, c.deref-8.ensures.value) at c.in_ok-rest.ensures in
    let are : AreSetsOf rest count sets = rw c.deref-9.ensures.value at c.in_ok-sets.ensures in
    let some : AreSomeJoined metal count after = rw are.some.size at c.unite_alike.ensures.joined in
    let alike : AreTogetherAlike metal kinds numbers (length metal) after =
    rw (c.deref-10.ensures.value, c.deref-11.ensures.value) at c.unite_alike.ensures.alike in
    let staying : AreStaying metal kinds numbers c.in_ok-stand_ins.stand_ins.items (length metal) c.in_ok-staying.staying.items =
    rw (c.deref-3.ensures.value, c.deref-4.ensures.value, c.deref-5.ensures.value) at c.in_ok-staying.ensures.staying in
    sets_of_stand_ins metal kinds numbers c.in_ok-kinds.ensures c.in_ok-stand_ins.stand_ins.items c.in_ok-staying.staying.items staying rest is_rest count
    c.requires.places sets after are some c.unite_alike.ensures.kept alike
