-- A routing run (lefdef's own rules): while a net of NETS is open, the first such net gets the wires of a shortest open walk from its
-- joined part to the rest.
use Rattle.std.specs.Prelude.{ℕ, ◌<◌, List, [], ◌∷◌, ◌++◌}
use Rattle.leg_design_records.specs.declared.records.Wire.{Wire}
use Rattle.leg_design_records.specs.Records.{DesignModel}
use Rattle.leg_rules.specs.Metal.Flat.{FlatModel}
use Rattle.leg_rules.specs.Joins.Violations.{IsOpenNet}
use Rattle.leg_rules.specs.Route.Walk.{IsShortest, NoWalk}
use Rattle.leg_rules.specs.declared.node.Node.{Node}
use Rattle.leg_rules.specs.Route.OpenMetal.{IsOpenNode, IsOpenStep}
use Rattle.leg_rules.specs.Route.Meets.{MeetsJoined, MeetsRest}
use Rattle.leg_rules.specs.Route.Spelling.{AreWiresOf}
use Rattle.leg_rules.specs.Route.MoreWires.{HasMoreWires}

-- it is the net's turn: it is the first that is open
pub record IsTurn (design : DesignModel) (flat : FlatModel) (net : ℕ) : Type 0 where
  pub is_open : IsOpenNet design flat net
  pub first : (other : ℕ) → other < net → ¬ IsOpenNet design flat other

-- a shortest open walk from the net's joined part to the rest
abbrev pub IsNextWalk : DesignModel → FlatModel → ℕ → List Node → Type 0
IsNextWalk design flat net nodes =
    IsShortest (IsOpenNode design flat net) (IsOpenStep design flat net) (MeetsJoined flat net) (MeetsRest flat net) nodes

-- there is no such walk
abbrev pub HasNoWalk : DesignModel → FlatModel → ℕ → Type 0
HasNoWalk design flat net =
    NoWalk (IsOpenNode design flat net) (IsOpenStep design flat net) (MeetsJoined flat net) (MeetsRest flat net)

-- wires of a net
pub record NetWires : Type 0 where
  pub net : ℕ
  pub wires : List Wire

-- From the first flat a run has come to the second, and has added these wires, walk by walk.
pub data RouteRun (design : DesignModel) : FlatModel → List NetWires → FlatModel → Type 0 where
  begun : {flat : FlatModel} → RouteRun design flat [] flat
  walked : {flat mid grown : FlatModel} {added : List NetWires} {nodes : List Node} {wires : List Wire} (net : ℕ)
      → RouteRun design flat added mid → IsTurn design mid net → IsNextWalk design mid net nodes → AreWiresOf design nodes wires
      → HasMoreWires design net wires mid grown → RouteRun design flat (added ++ record { net = net; wires = wires } ∷ []) grown

-- no net is open any more
abbrev pub IsDone : DesignModel → FlatModel → Type 0
IsDone design flat = (net : ℕ) → ¬ IsOpenNet design flat net
