use Rattle.std.proofs.Common.{◌≡◌, pos, max, get_or, take, unsigned_abs, arith}
use Rattle.std.proofs.lemmas.Int.{to_z-of_z}
use Rattle.leg_drc.specs.Steps.Reach.{greatest_by}
use Rattle.leg_drc.proofs.Greatest.{max_is, greatest_more}
use Rattle.leg_drc.proofs.reach.row_reach.Goals as goal

pub loop-value-preserved : goal.loop-value-preserved
loop-value-preserved g c =
    let values = c.as_slice-value-items.result.now in
    let k = c.loop-value.value-index in
    let so_far : c.loop-value.found ≡ greatest_by unsigned_abs (take k values) = c.loop-value.invariant in
    let next : c.unsigned_abs.result ≡ unsigned_abs (get_or values k (pos 0)) = grind (arith, to_z-of_z) in
    let greater : c.max-found.result ≡ max c.loop-value.found c.unsigned_abs.result = max_is _ _ _ c.max-found.ensures in
    rw (greatest_more unsigned_abs values k (pos 0) c.loop-value-test.true, ← so_far, ← next) greater
