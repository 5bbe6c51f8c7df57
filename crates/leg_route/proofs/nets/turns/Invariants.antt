-- The run has come to the turn of this net.
use Rattle.std.proofs.Common.{◌≡◌, false, All, map}
use Rattle.leg_design_records.specs.WellFormedNets.{IsWire}
use Rattle.leg_flat.specs.Limits.{IsWithinLimits}
use Rattle.leg_route.specs.Steps.RunSoFar.{IsRunSoFar}
use Rattle.leg_route.proofs.nets.turns.Given as goal

abbrev pub invariant-loop-net : goal.invariant-loop-net
invariant-loop-net g l =
    let ground = g.G.Ground in record {
      same : ground.design l.ground ≡ ground.design l.fn.ground;
      within : IsWithinLimits (ground.flat l.ground);
      ready : ground.IsReady l.ground;
      spelled : All (λ wires. All (IsWire (ground.design l.fn.ground).library (ground.design l.fn.ground).vias false) wires.items) l.lists.items;
      run : IsRunSoFar (ground.design l.fn.ground) (ground.flat l.fn.ground) l.net (map (λ wires. wires.items) l.lists.items) (ground.flat l.ground);
    }
