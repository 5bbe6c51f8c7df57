-- The wires that nodes and steps of the grid add (lefdef's own rules): each is given as a wire of NETS.
use Rattle.std.specs.Prelude.{◌≡◌, ℕ, ◌⊎◌, ℤ, pos, ◌-ℤ◌}
use Rattle.leg_geom.specs.Plane.{RectModel, halfway}
use Rattle.leg_lib_records.specs.declared.records.Direction.{Direction}
use Rattle.leg_design_records.specs.declared.records.Wire.{Wire}
use Rattle.leg_design_records.specs.declared.records.Wire.TheVariants.{Segment, ViaAt, Patch}
use Rattle.leg_design_records.specs.Records.{DesignModel}
use Rattle.leg_rules.specs.declared.node.Node.{Node}
use Rattle.leg_rules.specs.Route.Tracks.{Runs}
use Rattle.leg_rules.specs.Route.Neighbours.{IsInLine, IsOver}

-- half of a width, which is even
abbrev pub half : ℤ → ℤ
half width = halfway (pos 0) width

-- the square about the point 0 0 that reaches this far to each side
abbrev pub square : ℤ → RectModel
square reach = record { x1 = pos 0 -ℤ reach; y1 = pos 0 -ℤ reach; x2 = reach; y2 = reach }

-- a node adds the square of its layer's width
pub record NodeAdds (design : DesignModel) (node : Node) (wire : Wire) : Type 0 where
  pub direction : Direction
  pub width : ℤ
  pub runs : Runs design.library node.layer direction width
  pub is : wire ≡ Patch node.layer node.at (square (half width))

-- the segment of the layer's width from a to b, which reaches past both by half the width
pub record IsLine (design : DesignModel) (a b : Node) (wire : Wire) : Type 0 where
  pub direction : Direction
  pub width : ℤ
  pub runs : Runs design.library a.layer direction width
  pub is : wire ≡ Segment a.layer a.at b.at width (half width) (half width)

-- the via by which a step goes up or down, at the point of both nodes
pub record IsViaStep (design : DesignModel) (a b : Node) (wire : Wire) : Type 0 where
  pub via : ℕ
  pub over : IsOver design via a b ⊎ IsOver design via b a
  pub is : wire ≡ ViaAt via a.at

-- a step along a layer, which adds a segment
pub record IsLineStep (design : DesignModel) (a b : Node) (wire : Wire) : Type 0 where
  pub in_line : IsInLine design a b
  pub line : IsLine design a b wire

-- The wire that the step from a to the node b beside it adds.
abbrev pub StepAdds : DesignModel → Node → Node → Wire → Type 0
StepAdds design a b wire = IsLineStep design a b wire ⊎ IsViaStep design a b wire
