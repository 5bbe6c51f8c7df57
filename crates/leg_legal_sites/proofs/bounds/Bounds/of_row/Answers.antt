-- The first and the last free site bound them all.
use Rattle.std.proofs.Common.{◌≡◌, ◌+◌, ◌-◌, pos, ◌+ℤ◌, ◌*ℤ◌, refl, arith}
use Rattle.leg_geom.specs.Plane.{IsCoordinate}
use Rattle.leg_geom.proofs.Coordinates.{sum_fits}
use Rattle.leg_legal_sites.proofs.MetSites.{coordinate_passed}
use Rattle.leg_legal_sites.proofs.RowBounds.{bound_nothing, bound_row, sum_passed}
use Rattle.leg_legal_sites.proofs.bounds.Bounds.of_row.Goals as goal

pub returns-in_default : goal.returns-in_default
returns-in_default g c =
    bound_nothing c.args.number c.args.row.now c.args.size.now c.of_nothing.result c.args.sites.now c.in_default.ensures

pub edge-left-requires : goal.edge-left-requires
edge-left-requires g c = c.requires.left c.in-Some.ends.from c.in-Some.ensures.first

pub edge-requires : goal.edge-requires
edge-requires g c =
    let some = c.in-Some.ensures.some in
    let next : c.in-Some.ends.end - 1 + 1 ≡ c.in-Some.ends.end = omega (arith, some) in
    rw next at (c.requires.right (c.in-Some.ends.end - 1) c.in-Some.ensures.last)

pub overflow_add-result-2 : goal.overflow_add-result-2
overflow_add-result-2 g c =
    let row = c.args.row.now in
    let size = c.args.size.now in
    let from = c.in-Some.ends.from in
    let left : IsCoordinate (row.at.x +ℤ pos from *ℤ size.width) = c.requires.left from c.in-Some.ensures.first in
    let low : IsCoordinate row.at.y = c.y-y.ensures.within.y in
    rw (c.edge-left.ensures, c.y-y.ensures.is, coordinate_passed (row.at.x +ℤ pos from *ℤ size.width) left, coordinate_passed row.at.y low)
    (sum_fits (row.at.x +ℤ pos from *ℤ size.width) row.at.y left low)

pub returns : goal.returns
returns g c =
    let row = c.args.row.now in
    let size = c.args.size.now in
    let ends = c.in-Some.ends in
    let left : IsCoordinate (row.at.x +ℤ pos ends.from *ℤ size.width) = c.requires.left ends.from c.in-Some.ensures.first in
    let some = c.in-Some.ensures.some in
    let next : ends.end - 1 + 1 ≡ ends.end = omega (arith, some) in
    let right : IsCoordinate (row.at.x +ℤ pos ends.end *ℤ size.width) = rw next at (c.requires.right (ends.end - 1) c.in-Some.ensures.last) in
    let low : IsCoordinate row.at.y = c.y-y.ensures.within.y in
    let extent = c.height.ensures.proper in
    let high : IsCoordinate size.height = omega (arith, extent.height) in
    let y_passed = coordinate_passed row.at.y low in
    let h_passed = coordinate_passed size.height high in
    let l_passed = coordinate_passed (row.at.x +ℤ pos ends.from *ℤ size.width) left in
    let r_passed = coordinate_passed (row.at.x +ℤ pos ends.end *ℤ size.width) right in
    bound_row c.args.number row size extent.area c.args.sites.now ends c.in-Some.ensures _ (record {
      least_row = refl;
      least_site = refl;
      most_site = refl;
      low = rw (c.y-y.ensures.is) y_passed;
      high = rw (c.y-y.ensures.is) y_passed;
      top = rw (c.y-y.ensures.is, c.height.ensures.is, y_passed, h_passed) (sum_passed row.at.y size.height low high);
      left = rw c.edge-left.ensures l_passed;
      right = rw c.edge.ensures r_passed;
      corner = rw (c.edge-left.ensures, c.y-y.ensures.is, l_passed, y_passed) (sum_passed (row.at.x +ℤ pos ends.from *ℤ size.width) row.at.y left low);
      longest = refl;
    })
