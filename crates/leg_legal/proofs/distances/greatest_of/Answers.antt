-- One more distance.
use Rattle.std.proofs.Common.{FitsSigned, w64, pos, get_or, rules}
use Rattle.std.proofs.lemmas.Int.{to_z-of_z}
use Rattle.leg_legal.proofs.Totals.{greatest_next}
use Rattle.leg_legal.proofs.distances.greatest_of.Goals as goal

pub loop-distance-preserved : goal.loop-distance-preserved
loop-distance-preserved c =
    let fits : FitsSigned w64 c.max-greatest.result = search rules in
    let one : FitsSigned w64 (get_or c.args.distances.now c.loop-distance.distance-index (pos 0)) = search rules in
    let told = simp to_z-of_z at c.max-greatest.ensures.value in
    rw (
      to_z-of_z w64 c.max-greatest.result fits,
      greatest_next c.args.distances.now c.loop-distance.distance-index c.loop-distance-test.true,
      ← c.loop-distance.invariant,
    ) told
