use Rattle.std.proofs.Common.{FitsSigned, w64, rules}
use Rattle.std.proofs.lemmas.Int.{to_z-of_z}
use Rattle.leg_polygon.proofs.PassedEnds.{parted_at}
use Rattle.leg_polygon.proofs.sweep.parted.Goals as goal

pub returns : goal.returns
returns c =
    let low : FitsSigned w64 c.band.inside.low = search rules in
    let parts = parted_at _ _ _ _ _ c.split_at.ensures.front c.split_at.ensures.back c.count_upto.ensures.upto c.count_upto.ensures.above in
    rw (← c.band.view_is) (simp to_z-of_z at parts)
