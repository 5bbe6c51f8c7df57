-- Coordinates as numbers that are not negative.
use Rattle.std.specs.Prelude.{ℕ, ℤ, pos, ◌+ℤ◌, unsigned_abs}
use Rattle.leg_geom.specs.declared.limits.TheConstants.{COORDINATE_LIMIT}

-- how far a coordinate lies above the lowest one
abbrev pub offset_of : ℤ → ℕ
offset_of z = unsigned_abs (z +ℤ pos COORDINATE_LIMIT)
