-- Along y the rectangle meets the row or not; along x the edges of sites decide.
use Rattle.std.proofs.Common.{◌⊎◌, ◌+ℤ◌, ◌<ℤ◌, ◌≤ℤ◌, inl, inr, arith}
use Rattle.std.proofs.lemmas.Int.{ints}
use Rattle.leg_lib_records.specs.Measure.{IsProper}
use Rattle.leg_legal_sites.proofs.MetSites.{coordinate_passed, met_between, none_met}
use Rattle.leg_legal_sites.proofs.row_sites.sites_met.Goals as goal
use Rattle.leg_legal_sites.proofs.row_sites.sites_met.Goals.{else-bottom-y2-via-then-bottom-y2+else-y1-top, else-bottom-y2-via-else-bottom-y2}

pub returns-then-y1-top : goal.returns-then-y1-top
returns-then-y1-top c =
    let row = c.args.row.now in
    let size = c.args.size.now in
    let rect = c.args.rect.now in
    let proper : IsProper rect = record { wide = c.y2.ensures.proper.wide; high = c.y2.ensures.proper.high } in
    let bottom : row.at.y <ℤ rect.y2 = omega (arith, ints, c.if-bottom-y2.true, c.y-bottom.ensures.is, c.y2.ensures.is) in
    let top : rect.y1 <ℤ (row.at.y +ℤ size.height) = omega (arith, ints, c.if-y1-top.true, c.y-bottom.ensures.is, c.y1.ensures.is, c.height.ensures.is) in
    let ended = rw (c.x1.ensures.is, coordinate_passed rect.x1 c.x1.ensures.proper.x1) at c.sites_ended-from.ensures in
    let begun = rw (c.x2.ensures.is, coordinate_passed rect.x2 c.x2.ensures.proper.x2) at c.sites_begun-end.ensures in
    met_between row size c.height.ensures.proper.area rect _ proper ended begun bottom top

pub returns-else-bottom-y2 : goal.returns-else-bottom-y2
returns-else-bottom-y2 c =
    let row = c.args.row.now in
    let size = c.args.size.now in
    let rect = c.args.rect.now in
    let beside : ((row.at.y +ℤ size.height) ≤ℤ rect.y1) ⊎ (rect.y2 ≤ℤ row.at.y) =
    elim c.else-bottom-y2.branch [
      | else-bottom-y2-via-then-bottom-y2+else-y1-top w ↦
          inl (omega (arith, ints, w.if-y1-top.false, c.y-bottom.ensures.is, w.y1.ensures.is, c.height.ensures.is))
      | else-bottom-y2-via-else-bottom-y2 w ↦ inr (omega (arith, ints, w.if-bottom-y2.false, c.y-bottom.ensures.is, c.y2.ensures.is))
    ] in
    none_met row size rect beside
