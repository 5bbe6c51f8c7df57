use Rattle.std.proofs.Common.{map}
use Rattle.std.specs.List.{filter}
use Rattle.leg_polygon.specs.Walk.{turns}
use Rattle.leg_polygon.proofs.StepLists.{left_at, step_more, kept_splits}
use Rattle.leg_polygon.proofs.walk.corners.Goals as goal

pub sides-preserved : goal.sides-preserved
sides-preserved g c =
    step_more (λ twos. map (λ two. two.0.1) (filter turns twos)) (kept_splits (λ two. two.0.1) turns) _ _ _ _ _ _ _
    (left_at _ _ _ _ c.sides-test.true c.side-item.is) c.sides.invariant c.in_ok-add_corner.ensures
