-- All ends are near, or all in groups.
use Rattle.std.proofs.Common.{◌<◌}
use Rattle.std.proofs.lemmas.List.Elements.{All-contains}
use Rattle.leg_sweep.proofs.Lists.{All-from_contains}
use Rattle.leg_route_grid.specs.Steps.Grid.{slot_total}
use Rattle.leg_route.specs.declared.end_slots.EndSlot.{EndSlot}
use Rattle.leg_route.proofs.EndGroups.{kept_far}
use Rattle.leg_route.proofs.net_ends.net_ends.Goals as goal

pub groups_of-requires : goal.groups_of-requires
groups_of-requires g c =
    let low = λ (end : EndSlot). end.slot < slot_total c.args.grid.now in
    let ends = c.args.ends.items in
    let listed = c.sort_ends.new.ends.items in
    rw c.deref.ensures.value
    (record {
      within = All-from_contains low listed (λ end has. All-contains low ends end c.requires.within (c.sort_ends.ensures.from end has));
    })

pub returns : goal.returns
returns g c =
    rw c.new-2.ensures.items
    (kept_far c.args.grid.now c.args.ends.items c.sort_ends.new.ends.items c.in_ok-far.far.items c.sort_ends.ensures.from c.sort_ends.ensures.to
    (rw c.deref.ensures.value at c.in_ok-far.ensures))
