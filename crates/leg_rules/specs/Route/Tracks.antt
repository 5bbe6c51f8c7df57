-- The lines of the grid: which tracks layers have (LEF/DEF 5.8, "Tracks"; "Layer (Routing)", on DIRECTION and WIDTH; that
-- tracks without LAYER hold for every routing layer is lefdef's own rule).
use Rattle.std.specs.Prelude.{◌≡◌, ℕ, ◌⊎◌, ℤ, pos, ◌+ℤ◌, ◌*ℤ◌, ◌<ℤ◌, [], Some, slice_get, Contains}
use Rattle.leg_lib_records.specs.declared.records.Direction.{Direction}
use Rattle.leg_lib_records.specs.declared.records.Direction.TheVariants.{Horizontal, Vertical}
use Rattle.leg_lib_records.specs.declared.records.LayerKind.TheVariants.{Routing}
use Rattle.leg_lib_records.specs.declared.records.Layer.{Layer}
use Rattle.leg_lib_records.specs.Records.{LibraryModel}
use Rattle.leg_design_records.specs.declared.records.Axis.{Axis}
use Rattle.leg_design_records.specs.declared.records.Axis.TheVariants.{X, Y}
use Rattle.leg_design_records.specs.Records.{TrackModel, DesignModel}

-- wires of this direction and width run on the layer of this number
pub record Runs (library : LibraryModel) (number : ℕ) (direction : Direction) (width : ℤ) : Type 0 where
  pub layer : Layer
  pub there : slice_get library.layers number ≡ Some layer
  pub routes : layer.kind ≡ Routing direction width

-- one of the tracks lies at z
pub record IsLineOf (track : TrackModel) (z : ℤ) : Type 0 where
  pub k : ℕ
  pub within : pos k <ℤ track.count
  pub is : z ≡ track.start +ℤ (pos k *ℤ track.step)

-- the tracks are for this layer: they name it, or they name none and are for every routing layer
abbrev pub AreFor : TrackModel → ℕ → Type 0
AreFor track number = (track.layers ≡ []) ⊎ Contains track.layers number

-- the layer of this number has a track at z, of which all points share this coordinate
pub record HasTrack (design : DesignModel) (number : ℕ) (axis : Axis) (z : ℤ) : Type 0 where
  pub track : TrackModel
  pub given : Contains design.tracks track
  pub along : track.axis ≡ axis
  pub are_for : AreFor track number
  pub line : IsLineOf track z

-- x is an x value of the grid: some vertical layer has a track at x
pub record IsGridX (design : DesignModel) (x : ℤ) : Type 0 where
  pub number : ℕ
  pub width : ℤ
  pub vertical : Runs design.library number Vertical width
  pub track : HasTrack design number X x

-- y is a y value of the grid: some horizontal layer has a track at y
pub record IsGridY (design : DesignModel) (y : ℤ) : Type 0 where
  pub number : ℕ
  pub width : ℤ
  pub horizontal : Runs design.library number Horizontal width
  pub track : HasTrack design number Y y
