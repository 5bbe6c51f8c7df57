use Rattle.std.proofs.Common.{pos, get_or, FitsSigned, w64, rules}
use Rattle.std.proofs.lemmas.Int.{to_z-of_z}
use Rattle.leg_polygon.proofs.EdgePairs.{more_runs}
use Rattle.leg_polygon.proofs.band.add_runs.Goals as goal

pub runs-preserved : goal.runs-preserved
runs-preserved g c =
    let west : FitsSigned w64 (get_or c.runs.rest.now 0 (pos 0)) = search rules in
    let east : FitsSigned w64 (get_or c.runs.rest.now 1 (pos 0)) = search rules in
    let low : FitsSigned w64 c.band.inside.low = search rules in
    let high : FitsSigned w64 c.band.inside.high = search rules in
    more_runs _ _ _ c.args.band.now c.runs.rest.now c.in-len2-up.len_at_least c.runs.invariant
    (rw (← c.band.view_is) (simp to_z-of_z at c.in_ok-push.ensures.items))
