-- How far a run over all nets has come.
use Rattle.std.specs.Prelude.{ℕ, ◌<◌, List, All}
use Rattle.leg_design_records.specs.declared.records.Wire.{Wire}
use Rattle.leg_design_records.specs.Records.{DesignModel}
use Rattle.leg_rules.specs.Metal.Flat.{FlatModel}
use Rattle.leg_rules.specs.Route.Run.{NetWires, RouteRun}
use Rattle.leg_rules.specs.Joins.Violations.{IsOpenNet}
use Rattle.leg_route.specs.Steps.NetLists.{AreListsOf}

-- The run has come to the turn of this net: those before it are joined, and each has a list of the wires that it got.
pub record IsRunSoFar (design : DesignModel) (flat : FlatModel) (net : ℕ) (lists : List (List Wire)) (grown : FlatModel) : Type 0 where
  pub added : List NetWires
  pub run : RouteRun design flat added grown
  pub below : All (λ (one : NetWires). one.net < net) added
  pub joined : (other : ℕ) → other < net → ¬ IsOpenNet design grown other
  pub lists_are : AreListsOf net added lists
