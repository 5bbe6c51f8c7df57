-- The rows before the place end below the rectangle, and those after it begin above it.
use Rattle.std.proofs.Common.{◌≡◌, ℕ, ◌<◌, ◌+◌, ℤ, ◌-ℤ◌, ◌≤ℤ◌, Some, slice_get, w64, FitsSigned, arith}
use Rattle.std.proofs.lemmas.Int.{ints, fits_signed_from_abs, to_z-of_z}
use Rattle.leg_geom.specs.Plane.{IsCoordinate}
use Rattle.leg_legal_sites.specs.declared.row_keys.RowKey.{RowKey}
use Rattle.leg_legal_sites.proofs.MetSites.{coordinate_passed}
use Rattle.leg_legal_sites.proofs.OnlyRow.{only_between}
use Rattle.leg_legal_sites.proofs.only_row.only_met.Goals as goal

pub overflow_sub-y1 : goal.overflow_sub-y1
overflow_sub-y1 c =
    let h : IsCoordinate c.args.height = c.requires.height in
    let y : IsCoordinate c.y1.result = rw c.y1.ensures.is c.y1.ensures.proper.y1 in
    rw (coordinate_passed c.y1.result y, coordinate_passed c.args.height h)
    (fits_signed_from_abs w64 (c.y1.result -ℤ c.args.height) (omega (arith, ints, y, h)))

pub returns : goal.returns
returns c =
    let order = c.args.order.now in
    let rect = c.args.rect.now in
    let height = c.args.height in
    let h : IsCoordinate height = c.requires.height in
    let y : IsCoordinate c.y1.result = rw c.y1.ensures.is c.y1.ensures.proper.y1 in
    let y2 : IsCoordinate c.y2.result = rw c.y2.ensures.is c.y2.ensures.proper.y2 in
    let fits : FitsSigned w64 (c.y1.result -ℤ height) = fits_signed_from_abs w64 (c.y1.result -ℤ height) (omega (arith, ints, y, h)) in
    let bottom : ℤ = c.y1.result -ℤ height in
    let lower : (k : ℕ) (key : RowKey) → k < c.first_above-place.result → slice_get order k ≡ Some key → key.y ≤ℤ bottom =
    rw (coordinate_passed c.y1.result y, coordinate_passed height h, to_z-of_z w64 bottom fits) at c.first_above-place.ensures in
    let above : (key : RowKey) → slice_get order (c.first_above-place.result + 1) ≡ Some key → rect.y2 ≤ℤ key.y =
    rw (coordinate_passed c.y2.result y2, c.y2.ensures.is) at (c.is_at_or_above.ensures c.if-not-is_at_or_above.false) in
    only_between rect order height bottom c.first_above-place.result c.requires.rise (omega (arith, ints, c.y1.ensures.is)) c.if-place-order.false lower above
