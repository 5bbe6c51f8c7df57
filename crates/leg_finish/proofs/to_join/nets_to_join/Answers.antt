use Rattle.std.proofs.Common.{◌+◌, ◌<◌, All, length, ap, sym, subst, ◌∙◌}
use Rattle.std.proofs.lemmas.List.{length_push}
use Rattle.std.proofs.lemmas.List.Elements.{All-get_or, All-push}
use Rattle.leg_route_grid.specs.Steps.Grid.{slot_total}
use Rattle.leg_finish_search.specs.declared.net.NetToJoin.{NetToJoin}
use Rattle.leg_finish_search.specs.Slots.{AreSlotLists}
use Rattle.leg_finish.specs.declared.groups.OpenNet.{OpenNet}
use Rattle.leg_finish.proofs.to_join.nets_to_join.Goals as goal

pub groups_of-requires-clause-shapes : goal.groups_of-requires-clause-shapes
groups_of-requires-clause-shapes g c =
    let within = λ (net : OpenNet g.row.A.Denot). All (λ k. k < length c.args.flat.now.shapes) net.shapes in
    subst within (sym c.net-item.is) (All-get_or within c.args.nets.now c.loop-net.net-index c.net-item.result c.loop-net-test.true c.requires.shapes)

pub loop-net-preserved : goal.loop-net-preserved
loop-net-preserved g c =
    let within = λ (net : NetToJoin g.row.A.Denot). AreSlotLists (slot_total c.args.grid.now) net.groups.items in
    let nets = c.loop-net.joined.items in
    let net : NetToJoin g.row.A.Denot = record { net = c.net-item.result.net; groups = c.in_ok-groups_of.field-0 } in
    rw c.in_ok-push.ensures.items (record {
      count = length_push nets net ∙ ap (λ n. n + 1) c.loop-net.invariant.count;
      within = All-push within nets net c.loop-net.invariant.within c.in_ok-groups_of.ensures;
    })
