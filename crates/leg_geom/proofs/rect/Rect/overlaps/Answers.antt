use Rattle.std.proofs.Common.{rules}
use Rattle.leg_geom.proofs.Axes.{ShareSquare-steps}
use Rattle.leg_geom.proofs.rect.Rect.overlaps.Goals as goal

pub returns-then-shares_step : goal.returns-then-shares_step
returns-then-shares_step c =
    rw (← c.self.view_is, ← c.other.view_is) (
      λ t. (ShareSquare-steps _ _).0 (c.if-shares_step.ensures.0 (search rules), c.shares_step-then-shares_step.ensures.0 t),
      λ s. c.shares_step-then-shares_step.ensures.1 ((ShareSquare-steps _ _).1 s).1,
    )
