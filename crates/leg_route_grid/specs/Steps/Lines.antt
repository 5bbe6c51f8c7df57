-- The lines of tracks.
use Rattle.std.specs.Prelude.{◌≡◌, ◌↔◌, ◌⊎◌, ℕ, ℤ, pos, ◌≤ℤ◌, Bool, true, List, length, Some, slice_get, Contains}
use Rattle.leg_lex.specs.Number.{IsNumber}
use Rattle.leg_lib_records.specs.declared.records.Direction.{Direction}
use Rattle.leg_lib_records.specs.Records.{LibraryModel}
use Rattle.leg_design_records.specs.declared.records.Axis.{Axis}
use Rattle.leg_design_records.specs.Records.{TrackModel}
use Rattle.leg_rules.specs.Route.Tracks.{Runs, AreFor, IsLineOf}

-- the tracks are for some layer on which wires of this direction run
pub record Serve (library : LibraryModel) (track : TrackModel) (direction : Direction) : Type 0 where
  pub number : ℕ
  pub width : ℤ
  pub runs : Runs library number direction width
  pub are_for : AreFor track number

-- the numbers of a track are such that its lines can be computed
pub record HasLines (track : TrackModel) : Type 0 where
  pub start : IsNumber track.start
  pub some : pos 1 ≤ℤ track.count
  pub count : IsNumber track.count
  pub apart : pos 1 ≤ℤ track.step
  pub step : IsNumber track.step

-- z is a line of these tracks, which lie along this axis and are for some layer of this direction
pub record IsLineFor (library : LibraryModel) (direction : Direction) (axis : Axis) (track : TrackModel) (z : ℤ) : Type 0 where
  pub along : track.axis ≡ axis
  pub serve : Serve library track direction
  pub line : IsLineOf track z

-- z is such a line of some of the tracks
pub record IsLineAlong (library : LibraryModel) (tracks : List TrackModel) (direction : Direction) (axis : Axis) (z : ℤ) : Type 0 where
  pub track : TrackModel
  pub given : Contains tracks track
  pub is : IsLineFor library direction axis track z

-- one of these tracks lies at z, along this axis, and is for the layer of this number
pub record IsTrackAt (number : ℕ) (axis : Axis) (z : ℤ) (track : TrackModel) : Type 0 where
  pub along : track.axis ≡ axis
  pub are_for : AreFor track number
  pub line : IsLineOf track z

-- the marks, one for each of the values, have been set at the values of which this holds, and are else as before
pub record HaveMarked (values : List ℤ) (Holds : ℤ → Type 0) (before after : List Bool) : Type 0 where
  pub count : length after ≡ length before
  pub each : (i : ℕ) (z : ℤ) → slice_get values i ≡ Some z → (slice_get after i ≡ Some true) ↔ ((slice_get before i ≡ Some true) ⊎ Holds z)
