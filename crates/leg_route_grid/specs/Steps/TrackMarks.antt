-- Which values of the grid are tracks of a layer.
use Rattle.std.specs.Prelude.{◌≡◌, ◌↔◌, ℕ, ℤ, Bool, true, List, length, Some, slice_get}
use Rattle.leg_design_records.specs.declared.records.Axis.{Axis}
use Rattle.leg_design_records.specs.Records.{DesignModel}
use Rattle.leg_rules.specs.Route.Tracks.{HasTrack}

-- a mark for each of the values, set exactly where the layer of this number has a track there
pub record AreTrackMarks (design : DesignModel) (number : ℕ) (axis : Axis) (values : List ℤ) (marks : List Bool) : Type 0 where
  pub count : length marks ≡ length values
  pub each : (i : ℕ) (z : ℤ) → slice_get values i ≡ Some z → (slice_get marks i ≡ Some true) ↔ HasTrack design number axis z
