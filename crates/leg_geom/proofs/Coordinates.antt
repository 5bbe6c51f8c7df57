-- Coordinates and their sums stand in 64 bits as they are.
use Rattle.std.proofs.Common.{◌≡◌, ℤ, ◌+ℤ◌, to_z, of_z, w64, FitsSigned, arith}
use Rattle.std.proofs.lemmas.Int.{ints, to_z-of_z, fits_signed_from_abs}
use Rattle.leg_geom.specs.Plane.{IsCoordinate}

pub coordinate_kept : (z v : ℤ) → z ≡ v → IsCoordinate v → to_z w64 (of_z w64 z) ≡ v
coordinate_kept z v e near = grind (arith, ints, to_z-of_z)

pub sum_fits : (a b : ℤ) → IsCoordinate a → IsCoordinate b → FitsSigned w64 (a +ℤ b)
sum_fits a b first second = fits_signed_from_abs w64 (a +ℤ b) (omega (arith, ints, first, second))
