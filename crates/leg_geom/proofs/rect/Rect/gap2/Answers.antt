use Rattle.std.proofs.Common.{arith}
use Rattle.std.proofs.lemmas.Int.{ints}
use Rattle.std.proofs.lemmas.Nat.{mul-le}
use Rattle.leg_geom.proofs.Gaps.{IsSquareGap-gaps}
use Rattle.leg_geom.proofs.rect.Rect.gap2.Goals as goal

pub returns : goal.returns
returns c =
    let x = mul-le _ _ _ _ c.x_gap.ensures.small c.x_gap.ensures.small in
    let y = mul-le _ _ _ _ c.y_gap.ensures.small c.y_gap.ensures.small in
    (_, omega (arith, ints), IsSquareGap-gaps _ _ _ _ c.x_gap.ensures.least c.y_gap.ensures.least)
