-- One more group.
use Rattle.std.proofs.Common.{◌≡◌, ◌+◌, ◌*◌, ◌≤◌, length, [], ◌∷◌, arith, length-append}
use Rattle.leg_legal_sites.specs.declared.part_groups.TheConstants.{GROUP}
use Rattle.leg_legal_sites.specs.Steps.Parts.{AreNoLonger}
use Rattle.leg_legal_sites.proofs.PartPlaces.{group_more}
use Rattle.leg_legal_sites.proofs.part_groups.groups_of.Goals as goal

pub loop-group-preserved : goal.loop-group-preserved
loop-group-preserved g c =
    let parts = c.args.parts.now in
    let groups = c.loop-group.groups.items in
    let group = c.loop-group.group in
    let most = c.longest_between.result in
    let count : length groups ≡ group = c.loop-group.invariant.count in
    let one = length-append groups (most ∷ []) in
    let room : GROUP * length groups + GROUP ≤ length parts = omega (arith, count, c.loop-group-test.true) in
    let longest : AreNoLonger parts (GROUP * length groups) (GROUP * length groups + GROUP) most = rw count c.longest_between.ensures in
    rw c.in_ok-push.ensures.items (record { count = omega (arith, one, count); are = group_more parts groups most c.loop-group.invariant.are room longest })
