use Rattle.std.proofs.Common.{◌<◌, All, length, sym, arith}
use Rattle.std.proofs.lemmas.List.Elements.{All-weaker}
use Rattle.leg_route_access.specs.Steps.AccessTable.{IsAccessTable}
use Rattle.leg_finish.specs.declared.groups.OpenNet.{OpenNet}
use Rattle.leg_finish.specs.Steps.OpenNets.{IsOpenWith}
use Rattle.leg_route_laws.proofs.Within.{numbers_within}
use Rattle.leg_finish.proofs.found.walks_for.Goals as goal

pub nets_to_join-requires-clause-count : goal.nets_to_join-requires-clause-count
nets_to_join-requires-clause-count g c =
    let told : IsAccessTable c.args.grid.now c.args.flat.now c.in_ok-slots.slots.items = c.in_ok-slots.ensures c.args.flat.now (sym c.shapes.ensures.is) in
    rw c.deref.ensures.value told.count

pub nets_to_join-requires-clause-shapes : goal.nets_to_join-requires-clause-shapes
nets_to_join-requires-clause-shapes g c =
    let flat = c.args.flat.now in
    let open_with = λ (net : OpenNet g.row.A.Denot). IsOpenWith c.args.design.now flat net in
    let within = λ (net : OpenNet g.row.A.Denot). All (λ k. k < length flat.shapes) net.shapes in
    All-weaker open_with within (λ net with. numbers_within flat.shapes net.net net.shapes with.shapes) c.args.nets.now c.requires.nets.each

pub invariant_of-lattice : goal.invariant_of-lattice
invariant_of-lattice g c =
    let told : IsAccessTable c.args.grid.now c.args.flat.now c.in_ok-slots.slots.items = c.in_ok-slots.ensures c.args.flat.now (sym c.shapes.ensures.is) in
    record { count = rw c.deref-2.ensures.value told.count }

pub negotiate-requires-clause-parts : goal.negotiate-requires-clause-parts
negotiate-requires-clause-parts g c = rw c.deref-3.ensures.value c.in_ok-parts.ensures

pub negotiate-requires-clause-few : goal.negotiate-requires-clause-few
negotiate-requires-clause-few g c = rw c.deref-4.ensures.value (omega (arith, c.in_ok-to_join.ensures.count, c.requires.few))

pub negotiate-requires-clause-nets : goal.negotiate-requires-clause-nets
negotiate-requires-clause-nets g c = rw c.deref-4.ensures.value c.in_ok-to_join.ensures.within
