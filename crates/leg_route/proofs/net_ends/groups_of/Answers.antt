-- One group more.
use Rattle.std.proofs.Common.{◌-◌, ℕ, length, arith}
use Rattle.std.proofs.Math.Nat.{min-le_left}
use Rattle.leg_route.proofs.EndGroups.{groups_more}
use Rattle.leg_route.proofs.net_ends.groups_of.Goals as goal

pub groups-preserved : goal.groups-preserved
groups-preserved g c =
    let listed = c.args.listed.now in
    let group = c.group_at in
    let count : ℕ = c.min-count.result in
    let upto = min-le_left (length listed - c.groups.first) 32 in
    let is = c.min-count.ensures in
    let within = c.groups.invariant.within in
    record {
      within = omega (arith, upto, is, within);
      to = rw c.in_ok-push.ensures.items
          (groups_more c.args.grid.now listed c.groups.far.items c.groups.first count group.result c.groups.invariant.to group.ensures.first
          group.ensures.count group.ensures.is group.ensures.least);
    }
