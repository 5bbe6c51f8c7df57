-- The wires so far were added.
use Rattle.std.proofs.Common.{◌≡◌, take}
use Rattle.leg_flat.specs.Limits.{IsWithinLimits}
use Rattle.leg_rules.specs.Route.MoreWires.{HasMoreWires}
use Rattle.leg_route.proofs.net_turn.add_wires.Given as goal

abbrev pub invariant-loop-wire : goal.invariant-loop-wire
invariant-loop-wire g l =
    let ground = g.G.Ground in record {
      same : ground.design l.ground ≡ ground.design l.fn.ground;
      within : IsWithinLimits (ground.flat l.ground);
      ready : ground.IsReady l.ground;
      added : HasMoreWires (ground.design l.fn.ground) l.net (take l.wire-index l.wires) (ground.flat l.fn.ground) (ground.flat l.ground);
    }
