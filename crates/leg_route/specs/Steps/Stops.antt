-- Where a run stops before its end: no walk, or too many shapes, or out of memory.
use Rattle.std.specs.Prelude.{◌≡◌, ℕ, ◌+◌, ◌<◌, List, ◌∷◌, ◌++◌, length}
use Rattle.leg_design_records.specs.declared.limits.TheConstants.{PART_LIMIT}
use Rattle.leg_design_records.specs.declared.records.Wire.{Wire}
use Rattle.leg_design_records.specs.Records.{DesignModel}
use Rattle.leg_rules.specs.Metal.Metal.{wire_outlines}
use Rattle.leg_rules.specs.Metal.Flat.{FlatModel}
use Rattle.leg_rules.specs.declared.node.Node.{Node}
use Rattle.leg_rules.specs.Route.Spelling.{AreWiresOf}
use Rattle.leg_rules.specs.Route.MoreWires.{HasMoreWires}
use Rattle.leg_rules.specs.Route.Run.{IsNextWalk, HasNoWalk}
use Rattle.leg_rules.specs.Joins.Violations.{IsOpenNet}
use Rattle.leg_rules.specs.Route.Refusals.{IsUnroutable, HasTooManyShapes}
use Rattle.leg_route.specs.declared.fault.RouteFault.{RouteFault}
use Rattle.leg_route.specs.declared.fault.RouteFault.TheVariants.{NotClean, GridTooLarge, Unroutable, TooMany, Memory}
use Rattle.leg_route.specs.Steps.NetRun.{NetRun}

-- of these wires one has more shapes than the flat may still get, once those before it are added
pub record PassesLimit (design : DesignModel) (net : ℕ) (flat : FlatModel) (wires : List Wire) : Type 0 where
  pub before : List Wire
  pub wire : Wire
  pub after : List Wire
  pub are : wires ≡ before ++ wire ∷ after
  pub last : FlatModel
  pub first : HasMoreWires design net before flat last
  pub over : PART_LIMIT < length last.shapes + length (wire_outlines design wire)

-- within its turn the net has come to where no walk leads on
pub record IsStuckAtNet (design : DesignModel) (net : ℕ) (flat : FlatModel) : Type 0 where
  pub wires : List Wire
  pub mid : FlatModel
  pub run : NetRun design net flat wires mid
  pub is_open : IsOpenNet design mid net
  pub none : HasNoWalk design mid net

-- within its turn the net has come to a walk of too many shapes
pub record ComesToLimit (design : DesignModel) (net : ℕ) (flat : FlatModel) : Type 0 where
  pub wires : List Wire
  pub mid : FlatModel
  pub run : NetRun design net flat wires mid
  pub is_open : IsOpenNet design mid net
  pub nodes : List Node
  pub more : List Wire
  pub walk : IsNextWalk design mid net nodes
  pub spelled : AreWiresOf design nodes more
  pub passes : PassesLimit design net mid more

-- why the net's turn stops
abbrev pub IsNetStop : {A : Type 0} → DesignModel → FlatModel → ℕ → RouteFault A → Type 0
IsNetStop design flat net (NotClean faults) = ⊥
IsNetStop design flat net GridTooLarge = ⊥
IsNetStop design flat net (Unroutable n) = (n ≡ net) × IsStuckAtNet design net flat
IsNetStop design flat net TooMany = ComesToLimit design net flat
IsNetStop design flat net Memory = Unit {0}

-- why the run stops
abbrev pub IsRunStop : {A : Type 0} → DesignModel → FlatModel → RouteFault A → Type 0
IsRunStop design flat (NotClean faults) = ⊥
IsRunStop design flat GridTooLarge = ⊥
IsRunStop design flat (Unroutable n) = IsUnroutable design flat n
IsRunStop design flat TooMany = HasTooManyShapes design flat
IsRunStop design flat Memory = Unit {0}
