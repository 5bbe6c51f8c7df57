-- Why a design isn't routed (lefdef's own rules).
use Rattle.std.specs.Prelude.{◌≢◌, ℕ, ◌+◌, ◌<◌, List, [], ◌∷◌, ◌++◌, length}
use Rattle.leg_design_records.specs.declared.limits.TheConstants.{PART_LIMIT}
use Rattle.leg_design_records.specs.declared.records.Wire.{Wire}
use Rattle.leg_design_records.specs.declared.fault.Fault.{Fault}
use Rattle.leg_design_records.specs.Violation.{IsListOf}
use Rattle.leg_design_records.specs.Records.{DesignModel}
use Rattle.leg_rules.specs.Metal.Metal.{wire_outlines}
use Rattle.leg_rules.specs.Metal.Flat.{FlatModel}
use Rattle.leg_rules.specs.Violations.{IsOtherThanOpen}
use Rattle.leg_rules.specs.declared.node.Node.{Node}
use Rattle.leg_rules.specs.Route.Spelling.{AreWiresOf}
use Rattle.leg_rules.specs.Route.MoreWires.{HasMoreWires}
use Rattle.leg_rules.specs.Route.Run.{NetWires, RouteRun, IsTurn, IsNextWalk, HasNoWalk}

-- The design isn't clean: these are its violations of all kinds but Open, and there are some.
pub record IsNotClean (design : DesignModel) (flat : FlatModel) (faults : List Fault) : Type 0 where
  pub list : IsListOf (IsOtherThanOpen design flat) faults
  pub some : faults ≢ []

-- The net is unroutable: a run from this flat has come to its turn, and no open walk leads on.
pub record IsUnroutable (design : DesignModel) (flat : FlatModel) (net : ℕ) : Type 0 where
  pub added : List NetWires
  pub grown : FlatModel
  pub run : RouteRun design flat added grown
  pub turn : IsTurn design grown net
  pub none : HasNoWalk design grown net

-- A run from this flat has come to a net's turn, and one of the wires of its next walk has more shapes than a flat may
-- still get.
pub record HasTooManyShapes (design : DesignModel) (flat : FlatModel) : Type 0 where
  pub added : List NetWires
  pub grown : FlatModel
  pub net : ℕ
  pub nodes : List Node
  pub before : List Wire
  pub wire : Wire
  pub after : List Wire
  pub last : FlatModel
  pub run : RouteRun design flat added grown
  pub turn : IsTurn design grown net
  pub walk : IsNextWalk design grown net nodes
  pub wires : AreWiresOf design nodes (before ++ wire ∷ after)
  pub first : HasMoreWires design net before grown last
  pub over : PART_LIMIT < length last.shapes + length (wire_outlines design wire)
