-- How far components move, before these distances are added up.
use Rattle.std.specs.Prelude.{◌≡◌, ℕ, ◌*◌, ℤ, pos, ◌≤ℤ◌, List, length, All, Some, slice_get}
use Rattle.leg_geom.specs.declared.limits.TheConstants.{COORDINATE_LIMIT}
use Rattle.leg_design_records.specs.Records.{DesignModel}
use Rattle.leg_design_records.specs.declared.records.Component.{Component}
use Rattle.leg_rules.specs.Legalise.Start.{moved_by}

-- two points are at most so far apart along x and along y together
pub record IsMoveDistance (z : ℤ) : Type 0 where
  pub least : pos 0 ≤ℤ z
  pub most : z ≤ℤ pos (4 * COORDINATE_LIMIT)

-- for each component how far it has moved from its start, in file order
pub record AreDistances (before after : DesignModel) (each : List ℤ) : Type 0 where
  pub count : length each ≡ length before.components
  pub distances : (c : ℕ) (old new : Component) → slice_get before.components c ≡ Some old → slice_get after.components c ≡ Some new
      → slice_get each c ≡ Some (pos (moved_by before.die old new))
  pub within : All IsMoveDistance each
