-- Where one end of a stretch lies from the other.
use Rattle.std.specs.Prelude.{◌≡◌, ◌⊎◌, ◌<ℤ◌}
use Rattle.leg_geom.specs.Plane.{PointModel}

-- the second point lies to the east of the first
pub record IsToEast (low high : PointModel) : Type 0 where
  pub level : low.y ≡ high.y
  pub less : low.x <ℤ high.x

-- the second point lies to the north of the first
pub record IsToNorth (low high : PointModel) : Type 0 where
  pub upright : low.x ≡ high.x
  pub less : low.y <ℤ high.y

abbrev pub IsStretch : PointModel → PointModel → Type 0
IsStretch low high = IsToEast low high ⊎ IsToNorth low high
