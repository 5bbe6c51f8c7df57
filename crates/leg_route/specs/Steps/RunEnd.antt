-- A run that has come to its end, and the wires that it added.
use Rattle.std.specs.Prelude.{◌≤◌, List, length}
use Rattle.leg_design_records.specs.declared.limits.TheConstants.{PART_LIMIT}
use Rattle.leg_design_records.specs.declared.records.Wire.{Wire}
use Rattle.leg_design_records.specs.Records.{DesignModel}
use Rattle.leg_rules.specs.Metal.Flat.{FlatModel}
use Rattle.leg_rules.specs.Route.Run.{NetWires, RouteRun, IsDone}
use Rattle.leg_rules.specs.Route.Refusal.{ComesToRun}
use Rattle.leg_route.specs.Steps.NetLists.{AreListsOf}

-- from a flat of the design, in which no violation but open nets holds and whose grid isn't too large, a run has come to its end
-- within the limit of shapes, and each entry of NETS has a list of the wires that it got
pub record IsFinishedRun (design : DesignModel) (lists : List (List Wire)) : Type 0 where
  pub flat : FlatModel
  pub comes : ComesToRun design flat
  pub added : List NetWires
  pub grown : FlatModel
  pub run : RouteRun design flat added grown
  pub done : IsDone design grown
  pub within : length grown.shapes ≤ PART_LIMIT
  pub lists_are : AreListsOf (length design.nets) added lists
