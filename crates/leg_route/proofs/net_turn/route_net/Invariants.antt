-- The net got the wires so far, walk by walk; each walk gives it another piece at least.
use Rattle.std.proofs.Common.{◌≡◌, false, All, ◌-◌, ◌*◌}
use Rattle.leg_design_records.specs.declared.limits.TheConstants.{PART_LIMIT}
use Rattle.leg_design_records.specs.WellFormedNets.{IsWire}
use Rattle.leg_flat.specs.Limits.{IsWithinLimits}
use Rattle.leg_rules.specs.Joins.Touch.{piece_count}
use Rattle.leg_route.specs.Steps.NetRun.{NetRun}
use Rattle.leg_route.proofs.net_turn.route_net.Given as goal

abbrev pub invariant-walks : goal.invariant-walks
invariant-walks g l =
    let ground = g.G.Ground in record {
      same : ground.design l.ground ≡ ground.design l.fn.ground;
      within : IsWithinLimits (ground.flat l.ground);
      ready : ground.IsReady l.ground;
      spelled : All (IsWire (ground.design l.fn.ground).library (ground.design l.fn.ground).vias false) l.wires.items;
      run : NetRun (ground.design l.fn.ground) l.net (ground.flat l.fn.ground) l.wires.items (ground.flat l.ground);
    }

abbrev pub decreases-walks : goal.decreases-walks
decreases-walks g l = let ground = g.G.Ground in 3 * PART_LIMIT - piece_count (ground.flat l.ground) l.net
