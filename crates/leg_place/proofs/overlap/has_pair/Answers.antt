-- Two boxes that share a unit square, the lower number first, are a pair.
use Rattle.std.proofs.Common.{rules, arith}
use Rattle.leg_place.proofs.Overlaps.{pair_at}
use Rattle.leg_place.proofs.overlap.has_pair.Goals as goal
use Rattle.leg_place.proofs.overlap.has_pair.Goals.{then-a-b, else-a-b}

pub returns-then-b-boxes : goal.returns-then-b-boxes
returns-then-b-boxes c t =
    elim c.if-a-b.branch [
      | then-a-b w ↦
          pair_at c.args.boxes.now c.in-Some.a c.in-Some.b c.index-boxes-a.result c.index-boxes-b.result (omega arith) (omega arith) (c.overlaps.ensures.0 t)
      | else-a-b w ↦ absurd (search rules)
    ]
