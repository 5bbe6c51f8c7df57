-- Along y the row lies in the die or not; along x the edges of sites and the count decide.
use Rattle.std.proofs.Common.{◌↔◌, ◌⊎◌, ℕ, ◌<◌, pos, ◌+ℤ◌, ◌<ℤ◌, ◌≤ℤ◌, inl, inr, arith}
use Rattle.std.proofs.lemmas.Int.{ints, clamps}
use Rattle.leg_legal_sites.proofs.MetSites.{coordinate_passed, inside_between, none_inside}
use Rattle.leg_legal_sites.proofs.row_sites.sites_inside.Goals as goal
use Rattle.leg_legal_sites.proofs.row_sites.sites_inside.Goals.{else-y1-bottom-via-then-y1-bottom+else-top-y2, else-y1-bottom-via-else-y1-bottom}

pub returns-then-top-y2 : goal.returns-then-top-y2
returns-then-top-y2 c =
    let row = c.args.row.now in
    let size = c.args.size.now in
    let die = c.args.die.now in
    let count = c.unsigned_abs-count.result in
    let bottom : die.y1 ≤ℤ row.at.y = omega (arith, ints, c.if-y1-bottom.true, c.y-bottom.ensures.is, c.y1.ensures.is) in
    let top : (row.at.y +ℤ size.height) ≤ℤ die.y2 = omega (arith, ints, c.if-top-y2.true, c.y-bottom.ensures.is, c.y2.ensures.is, c.height.ensures.is) in
    let counted : (k : ℕ) → k < count ↔ (pos k <ℤ row.count) =
    λ k. (
      λ below. omega (arith, ints, clamps, below, c.max.ensures.value, c.unsigned_abs-count.ensures.value),
      λ below. omega (arith, ints, clamps, below, c.max.ensures.value, c.unsigned_abs-count.ensures.value),
    ) in
    let begun = rw (c.x1.ensures.is, coordinate_passed die.x1 c.x1.ensures.proper.x1) at c.sites_begun-from.ensures in
    let ended = rw (c.x2.ensures.is, coordinate_passed die.x2 c.x2.ensures.proper.x2) at c.sites_ended.ensures in
    rw c.min-end.ensures (inside_between row size c.height.ensures.proper.area die c.sites_begun-from.result c.sites_ended.result count begun ended counted
    bottom top)

pub returns-else-y1-bottom : goal.returns-else-y1-bottom
returns-else-y1-bottom c =
    let row = c.args.row.now in
    let size = c.args.size.now in
    let die = c.args.die.now in
    let beside : (row.at.y <ℤ die.y1) ⊎ (die.y2 <ℤ (row.at.y +ℤ size.height)) =
    elim c.else-y1-bottom.branch [
      | else-y1-bottom-via-then-y1-bottom+else-top-y2 w ↦
          inr (omega (arith, ints, w.if-top-y2.false, c.y-bottom.ensures.is, w.y2.ensures.is, c.height.ensures.is))
      | else-y1-bottom-via-else-y1-bottom w ↦ inl (omega (arith, ints, w.if-y1-bottom.false, c.y-bottom.ensures.is, c.y1.ensures.is))
    ] in
    none_inside row size c.height.ensures.proper.area die beside
