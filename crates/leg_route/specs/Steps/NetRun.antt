-- The part of a run that is the turn of one net.
use Rattle.std.specs.Prelude.{ℕ, List, [], ◌++◌}
use Rattle.leg_design_records.specs.declared.records.Wire.{Wire}
use Rattle.leg_design_records.specs.Records.{DesignModel}
use Rattle.leg_rules.specs.Metal.Flat.{FlatModel}
use Rattle.leg_rules.specs.declared.node.Node.{Node}
use Rattle.leg_rules.specs.Route.Spelling.{AreWiresOf}
use Rattle.leg_rules.specs.Route.MoreWires.{HasMoreWires}
use Rattle.leg_rules.specs.Route.Run.{IsNextWalk}
use Rattle.leg_rules.specs.Joins.Violations.{IsOpenNet}

-- from the first flat to the second the net, as long as it was open, got the wires of one walk after another: these
pub data NetRun (design : DesignModel) (net : ℕ) : FlatModel → List Wire → FlatModel → Type 0 where
  begun : {flat : FlatModel} → NetRun design net flat [] flat
  walked : {flat mid grown : FlatModel} {nodes : List Node} (wires more : List Wire) → NetRun design net flat wires mid → IsOpenNet design mid net
      → IsNextWalk design mid net nodes → AreWiresOf design nodes more → HasMoreWires design net more mid grown
      → NetRun design net flat (wires ++ more) grown
