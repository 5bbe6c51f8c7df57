-- What a routed design has: the wires of a routing run (lefdef's own rules).
use Rattle.std.specs.Prelude.{◌≡◌, ◌==◌, ℕ, List, [], ◌∷◌, ◌++◌, length, Some, slice_get, if◌then◌else◌}
use Rattle.leg_design_records.specs.declared.records.Wire.{Wire}
use Rattle.leg_design_records.specs.Records.{NetModel, DesignModel}
use Rattle.leg_rules.specs.Metal.Flat.{FlatModel, IsFlatOf}
use Rattle.leg_rules.specs.Route.Run.{NetWires, RouteRun, IsDone}

-- the wires that a run added to this net, in their order
abbrev pub wires_for : ℕ → List NetWires → List Wire
wires_for net [] = []
wires_for net (one ∷ more) = if one.net == net then one.wires ++ wires_for net more else wires_for net more

-- The second design is the first with these wires, each in its entry of NETS after those that the entry had.
pub record HasAdded (before : DesignModel) (added : List NetWires) (after : DesignModel) : Type 0 where
  pub rest : after ≡ record before { nets = after.nets }
  pub count : length after.nets ≡ length before.nets
  pub each : (n : ℕ) (net : NetModel) → slice_get before.nets n ≡ Some net
      → slice_get after.nets n ≡ Some (record net { wires = net.wires ++ wires_for n added })

-- The second design is the first one, routed: a run from its metal has come to where no net is open, and what that run added
-- is what was added to the design.
pub record IsRouted (before after : DesignModel) : Type 0 where
  pub flat : FlatModel
  pub is_flat : IsFlatOf before flat
  pub added : List NetWires
  pub grown : FlatModel
  pub run : RouteRun before flat added grown
  pub done : IsDone before grown
  pub wires : HasAdded before added after
