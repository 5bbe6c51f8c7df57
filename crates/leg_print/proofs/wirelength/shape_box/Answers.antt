use Rattle.std.proofs.Common.{w64}
use Rattle.std.proofs.lemmas.Int.{to_z-of_z}
use Rattle.leg_print.proofs.PointsOfSome.{rect_least}
use Rattle.leg_print.proofs.wirelength.shape_box.Goals as goal

pub returns : goal.returns
returns c =
    let points = rw (to_z-of_z w64 c.args.width c.ranges.width, to_z-of_z w64 c.args.height c.ranges.height) at c.rect.ensures.image in
    rw c.of.ensures (rect_least _ c.rect.result c.rect.ensures.proper points)
