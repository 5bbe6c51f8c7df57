use Rattle.leg_lib.proofs.Sides.{all_stand}
use Rattle.leg_lib.proofs.polygon.rects_within.Goals as goal

pub rects-requires : goal.rects-requires
rects-requires g c =
    rw (c.deref.ensures.value, c.deref-2.ensures.value, c.deref-3.ensures.value, c.in_ok-xs.ensures, c.in_ok-ys.ensures)
    (all_stand c.args.points.now _ c.in_ok-slabs.ensures)
