-- One more group is measured anew.
use Rattle.leg_legal_sites.proofs.PartPlaces.{group_set}
use Rattle.leg_legal_sites.proofs.part_groups.measure_groups.Goals as goal

pub loop-group-preserved : goal.loop-group-preserved
loop-group-preserved g c =
    group_set c.args.parts.now c.loop-group.groups c.loop-group.group c.longest_between.result c.loop-group.invariant c.longest_between.ensures
