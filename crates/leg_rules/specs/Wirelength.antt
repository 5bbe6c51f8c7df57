-- How long the nets of a design are at least, in database units: its half-perimeter wirelength (lefdef's own rule).
use Rattle.std.specs.Prelude.{◌≡◌, ℕ, ◌+◌, ℤ, pos, ◌≤ℤ◌, List, length, sum, Contains, Option, None, Some}
use Rattle.std.specs.List.{range_with_len}
use Rattle.leg_geom.specs.Plane.{PointModel, RectModel, HasPoint, HasAllPoints, IsCentre}
use Rattle.leg_geom.specs.Gap.{apart}
use Rattle.leg_lib_records.specs.Scale.{OneForOne}
use Rattle.leg_design_records.specs.declared.records.Terminal.{Terminal}
use Rattle.leg_design_records.specs.Records.{DesignModel}
use Rattle.leg_rules.specs.Metal.Outline.{HasPointOf}
use Rattle.leg_rules.specs.Metal.Metal.{OnLayer}
use Rattle.leg_rules.specs.Metal.Nets.{terminals_of}
use Rattle.leg_rules.specs.Metal.Pieces.{IsOfTerminal}

-- the box, which may be as thin as a line or a point, holds all these points, and each box that holds them holds the box
pub record IsLeastBox (Has : PointModel → Type 0) (box : RectModel) : Type 0 where
  pub wide : box.x1 ≤ℤ box.x2
  pub high : box.y1 ≤ℤ box.y2
  pub around : (p : PointModel) → Has p → HasPoint box p
  pub least : (other : RectModel) → ((p : PointModel) → Has p → HasPoint other p) → HasAllPoints other box

-- the least box round these points, where there are points
abbrev pub IsLeastBoxIfAny : (PointModel → Type 0) → Option RectModel → Type 0
IsLeastBoxIfAny Has None = (p : PointModel) → ¬ Has p
IsLeastBoxIfAny Has (Some box) = IsLeastBox Has box

-- The point lies in one of the terminal's shapes, on whichever layer. A pin of a component without a place has no shapes,
-- and a pin of the design has those of its ports that have one.
pub record HasTerminalPoint (design : DesignModel) (terminal : Terminal) (p : PointModel) : Type 0 where
  pub metal : OnLayer
  pub draws : IsOfTerminal design terminal metal
  pub in_metal : HasPointOf metal.outline p

-- the point represents the terminal: the middle of the least box round its shapes, each coordinate rounded down
pub record IsTerminalCentre (design : DesignModel) (terminal : Terminal) (p : PointModel) : Type 0 where
  pub box : RectModel
  pub least : IsLeastBox (HasTerminalPoint design terminal) box
  pub middle : IsCentre box p

-- the point represents one of these terminals
pub record IsCentreAmong (design : DesignModel) (terminals : List Terminal) (p : PointModel) : Type 0 where
  pub terminal : Terminal
  pub listed : Contains terminals terminal
  pub centre : IsTerminalCentre design terminal p

-- half of the way round a box
abbrev pub half_perimeter : Option RectModel → ℕ
half_perimeter None = 0
half_perimeter (Some box) = apart box.x1 box.x2 + apart box.y1 box.y2

-- The length of net n: half of the way round the least box that holds the centres of its terminals, those of its entries of
-- NETS and of SPECIALNETS. So it is 0 where fewer than two terminals have shapes: one centre alone is its own least box.
pub record IsNetLength (design : DesignModel) (n length : ℕ) : Type 0 where
  pub box : Option RectModel
  pub least : IsLeastBoxIfAny (IsCentreAmong design (terminals_of design n)) box
  pub is : length ≡ half_perimeter box

-- The wirelength of a design: the lengths of the nets of NETS together.
pub record IsWirelength (design : DesignModel) (total : ℤ) : Type 0 where
  pub lengths : List ℕ
  pub each : OneForOne (IsNetLength design) (range_with_len 0 (length design.nets)) lengths
  pub is : total ≡ pos (sum lengths)
