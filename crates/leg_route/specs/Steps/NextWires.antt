-- What a search answers that a net asks for.
use Rattle.std.specs.Prelude.{ℕ, List, All, Option, None, Some, false}
use Rattle.leg_design_records.specs.declared.records.Wire.{Wire}
use Rattle.leg_design_records.specs.WellFormedNets.{IsWire}
use Rattle.leg_design_records.specs.Records.{DesignModel}
use Rattle.leg_rules.specs.Metal.Flat.{FlatModel}
use Rattle.leg_rules.specs.declared.node.Node.{Node}
use Rattle.leg_rules.specs.Route.Spelling.{AreWiresOf}
use Rattle.leg_rules.specs.Route.Run.{IsNextWalk, HasNoWalk}
use Rattle.leg_rules.specs.Joins.Violations.{IsOpenNet}
use Rattle.leg_route.specs.declared.ground.NextStep.{NextStep}
use Rattle.leg_route.specs.declared.ground.NextStep.TheVariants.{Joined, Wires, NoWalk}

-- the wires of a shortest open walk from the net's joined part to the rest, each one that NETS can have
pub record AreNextWires (design : DesignModel) (flat : FlatModel) (net : ℕ) (wires : List Wire) : Type 0 where
  pub nodes : List Node
  pub walk : IsNextWalk design flat net nodes
  pub are : AreWiresOf design nodes wires
  pub spelled : All (IsWire design.library design.vias false) wires

-- such wires, or none where there is no such walk
abbrev pub IsNextAnswer : DesignModel → FlatModel → ℕ → Option (List Wire) → Type 0
IsNextAnswer design flat net None = HasNoWalk design flat net
IsNextAnswer design flat net (Some wires) = AreNextWires design flat net wires

-- what the net asks for: it is joined, or is open and gets such wires, or is open and there is no such walk
abbrev pub IsNextStep : {A : Type 0} → DesignModel → FlatModel → ℕ → NextStep A → Type 0
IsNextStep design flat net Joined = ¬ IsOpenNet design flat net
IsNextStep design flat net (Wires wires) = IsOpenNet design flat net × AreNextWires design flat net wires.items
IsNextStep design flat net NoWalk = IsOpenNet design flat net × HasNoWalk design flat net
