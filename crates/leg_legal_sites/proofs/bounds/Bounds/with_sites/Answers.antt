-- The first and the last free site bound them all, in each row that begins at that x.
use Rattle.std.proofs.Common.{◌≡◌, ◌+◌, ◌-◌, pos, ◌+ℤ◌, ◌*ℤ◌, refl, ◌∙◌, arith, rules, w64, to_z, of_z}
use Rattle.std.specs.Int.{saturate_signed}
use Rattle.std.proofs.lemmas.Int.{ints}
use Rattle.leg_geom.specs.Plane.{IsCoordinate}
use Rattle.leg_geom.proofs.Coordinates.{sum_fits}
use Rattle.leg_legal_sites.proofs.MetSites.{coordinate_passed}
use Rattle.leg_legal_sites.proofs.RowBounds.{bound_nothing, bound_alike, saturated_upto}
use Rattle.leg_legal_sites.proofs.bounds.Bounds.with_sites.Goals as goal

pub returns-in_default : goal.returns-in_default
returns-in_default g c number other same low fits =
    bound_nothing number other c.args.size.now c.of_nothing.result c.args.sites.now c.in_default.ensures

pub edge-left-requires : goal.edge-left-requires
edge-left-requires g c = c.requires.within.left c.in-Some.ends.from c.in-Some.ensures.first

pub edge-requires : goal.edge-requires
edge-requires g c =
    let some = c.in-Some.ensures.some in
    let next : c.in-Some.ends.end - 1 + 1 ≡ c.in-Some.ends.end = omega (arith, some) in
    rw next at (c.requires.within.right (c.in-Some.ends.end - 1) c.in-Some.ensures.last)

pub returns : goal.returns
returns g c =
    let row = c.args.row.now in
    let size = c.args.size.now in
    let old = c.args.self.now in
    let ends = c.in-Some.ends in
    let left : IsCoordinate (row.at.x +ℤ pos ends.from *ℤ size.width) = c.requires.within.left ends.from c.in-Some.ensures.first in
    let some = c.in-Some.ensures.some in
    let next : ends.end - 1 + 1 ≡ ends.end = omega (arith, some) in
    let right : IsCoordinate (row.at.x +ℤ pos ends.end *ℤ size.width) = rw next at (c.requires.within.right (ends.end - 1) c.in-Some.ensures.last) in
    let l_passed = coordinate_passed (row.at.x +ℤ pos ends.from *ℤ size.width) left in
    let r_passed = coordinate_passed (row.at.x +ℤ pos ends.end *ℤ size.width) right in
    let low_passed : to_z w64 (of_z w64 old.low) ≡ old.low = search rules in
    let high_passed : to_z w64 (of_z w64 old.high) ≡ old.high = search rules in
    let top_passed : to_z w64 (of_z w64 old.top) ≡ old.top = search rules in
    let sum_passed : to_z w64 (of_z w64 c.saturating_add.result) ≡ c.saturating_add.result = search rules in
    let sum : c.saturating_add.result ≡ saturate_signed w64 ((row.at.x +ℤ pos ends.from *ℤ size.width) +ℤ old.low) =
    c.saturating_add.ensures ∙ rw (low_passed, c.edge-left.ensures, l_passed) refl in
    bound_alike 0 row size c.requires.area c.args.sites.now ends c.in-Some.ensures old _ (record {
      least_row = refl;
      least_site = refl;
      most_site = refl;
      low = low_passed;
      high = high_passed;
      top = top_passed;
      left = rw c.edge-left.ensures l_passed;
      right = rw c.edge.ensures r_passed;
      corner =
          λ y far below. rw (sum_passed, sum) (saturated_upto ((row.at.x +ℤ pos ends.from *ℤ size.width) +ℤ old.low)
          ((row.at.x +ℤ pos ends.from *ℤ size.width) +ℤ y) (omega (arith, ints, below)) (sum_fits (row.at.x +ℤ pos ends.from *ℤ size.width) y left far));
      longest = refl;
    })
