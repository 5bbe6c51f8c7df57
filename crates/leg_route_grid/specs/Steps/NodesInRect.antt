-- Nodes in a rectangle of a layer, on its border or within it (lefdef's own rule).
use Rattle.std.specs.Prelude.{◌≡◌, ℕ}
use Rattle.leg_geom.specs.Plane.{RectModel, HasPoint}
use Rattle.leg_rules.specs.declared.node.Node.{Node}

-- the node lies on the layer of this number in the library, and its point in the rectangle
pub record LiesInRect (layer : ℕ) (rect : RectModel) (node : Node) : Type 0 where
  pub on_layer : node.layer ≡ layer
  pub inside : HasPoint rect node.at
