-- Nodes and steps that are open to a net: what they add is clean metal of the net (lefdef's own rules).
use Rattle.std.specs.Prelude.{ℕ, ◌↔◌, Contains}
use Rattle.leg_geom.specs.Plane.{PointModel, RectModel, HasPoint}
use Rattle.leg_design_records.specs.declared.records.Wire.{Wire}
use Rattle.leg_design_records.specs.Records.{DesignModel}
use Rattle.leg_rules.specs.Metal.Outline.{HasPointOf}
use Rattle.leg_rules.specs.Metal.Metal.{OnLayer, wire_outlines}
use Rattle.leg_rules.specs.Metal.Flat.{FlatModel}
use Rattle.leg_rules.specs.Spacing.Clean.{IsClean}
use Rattle.leg_rules.specs.declared.node.Node.{Node}
use Rattle.leg_rules.specs.Route.Nodes.{IsNode}
use Rattle.leg_rules.specs.Route.StepWires.{NodeAdds, StepAdds}

-- each rectangle of the wire may lie where it does: as metal of the net it is neither short with a shape of another owner
-- nor too near to one
abbrev pub IsOpenWire : DesignModel → FlatModel → ℕ → Wire → Type 0
IsOpenWire design flat net wire =
    (metal : OnLayer) (rect : RectModel) → Contains (wire_outlines design wire) metal
    → ((p : PointModel) → HasPoint rect p ↔ HasPointOf metal.outline p) → IsClean design.library flat net metal.layer rect

-- The node is open to the net.
pub record IsOpenNode (design : DesignModel) (flat : FlatModel) (net : ℕ) (node : Node) : Type 0 where
  pub is_node : IsNode design node
  pub wire : Wire
  pub adds : NodeAdds design node wire
  pub clean : IsOpenWire design flat net wire

-- The step from a to the node b beside it is open to the net.
pub record IsOpenStep (design : DesignModel) (flat : FlatModel) (net : ℕ) (a b : Node) : Type 0 where
  pub wire : Wire
  pub adds : StepAdds design a b wire
  pub clean : IsOpenWire design flat net wire
