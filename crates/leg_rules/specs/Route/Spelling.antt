-- The wires of a walk (lefdef's own rules): maximal straight runs become segments, steps by a via become vias, and a walk of no steps
-- becomes a patch.
use Rattle.std.specs.Prelude.{ℕ, ◌⊎◌, List, [], ◌∷◌, ◌++◌}
use Rattle.leg_design_records.specs.declared.records.Wire.{Wire}
use Rattle.leg_design_records.specs.declared.records.Wire.TheVariants.{ViaAt}
use Rattle.leg_design_records.specs.Records.{DesignModel}
use Rattle.leg_rules.specs.declared.side.Side.{Side}
use Rattle.leg_rules.specs.declared.side.Side.TheVariants.{West, East, South, North, Below, Above}
use Rattle.leg_rules.specs.declared.node.Node.{Node}
use Rattle.leg_rules.specs.Route.Neighbours.{IsNeighbour, IsOver}
use Rattle.leg_rules.specs.Route.StepWires.{NodeAdds, IsLine}

-- steps to this side stay on their layer
abbrev pub IsOnLayer : Side → Type 0
IsOnLayer West = Unit {0}
IsOnLayer East = Unit {0}
IsOnLayer South = Unit {0}
IsOnLayer North = Unit {0}
IsOnLayer Below = ⊥
IsOnLayer Above = ⊥

-- from a over these nodes, of which b is the last, all steps go to one side
pub data IsStraight (design : DesignModel) (side : Side) : Node → List Node → Node → Type 0 where
  one : {a b : Node} → IsNeighbour design side a b → IsStraight design side a (b ∷ []) b
  more : {a b c : Node} {nodes : List Node} → IsNeighbour design side a b → IsStraight design side b nodes c → IsStraight design side a (b ∷ nodes) c

-- the walk doesn't go on from a to this side
abbrev pub EndsOrTurns : DesignModel → Side → Node → List Node → Type 0
EndsOrTurns design side a [] = Unit {0}
EndsOrTurns design side a (b ∷ nodes) = ¬ IsNeighbour design side a b

-- the wires of a walk from a over these nodes
pub data Spells (design : DesignModel) : Node → List Node → List Wire → Type 0 where
  done : {a : Node} → Spells design a [] []
  through : {a b : Node} {nodes : List Node} {wires : List Wire} (via : ℕ) → IsOver design via a b ⊎ IsOver design via b a
      → Spells design b nodes wires → Spells design a (b ∷ nodes) (ViaAt via a.at ∷ wires)
  along : {a b : Node} {nodes : List Node} {wire : Wire} {wires : List Wire} (side : Side) (run : List Node) → IsOnLayer side
      → IsStraight design side a run b → EndsOrTurns design side b nodes → IsLine design a b wire
      → Spells design b nodes wires → Spells design a (run ++ nodes) (wire ∷ wires)

-- The wires of the walk over these nodes.
pub data AreWiresOf (design : DesignModel) : List Node → List Wire → Type 0 where
  stays : {a : Node} {wire : Wire} → NodeAdds design a wire → AreWiresOf design (a ∷ []) (wire ∷ [])
  goes : {a b : Node} {nodes : List Node} {wires : List Wire} → Spells design a (b ∷ nodes) wires → AreWiresOf design (a ∷ b ∷ nodes) wires
