-- The nodes of the grid (lefdef's own rules).
use Rattle.std.specs.Prelude.{◌⊎◌, ℤ}
use Rattle.leg_lib_records.specs.declared.records.Direction.TheVariants.{Horizontal, Vertical}
use Rattle.leg_design_records.specs.declared.records.Axis.TheVariants.{X, Y}
use Rattle.leg_design_records.specs.Records.{DesignModel}
use Rattle.leg_rules.specs.declared.node.Node.{Node}
use Rattle.leg_rules.specs.Route.Tracks.{Runs, HasTrack, IsGridX, IsGridY}

-- on a vertical layer: the layer has a track there, at any y value of the grid
pub record IsUpright (design : DesignModel) (node : Node) : Type 0 where
  pub width : ℤ
  pub vertical : Runs design.library node.layer Vertical width
  pub track : HasTrack design node.layer X node.at.x
  pub y : IsGridY design node.at.y

-- on a horizontal layer: the layer has a track there, at any x value of the grid
pub record IsLevel (design : DesignModel) (node : Node) : Type 0 where
  pub width : ℤ
  pub horizontal : Runs design.library node.layer Horizontal width
  pub track : HasTrack design node.layer Y node.at.y
  pub x : IsGridX design node.at.x

-- A node of the grid.
abbrev pub IsNode : DesignModel → Node → Type 0
IsNode design node = IsUpright design node ⊎ IsLevel design node
