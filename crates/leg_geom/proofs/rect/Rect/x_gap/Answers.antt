use Rattle.leg_geom.proofs.Axes.{IsXGap-ends}
use Rattle.leg_geom.proofs.rect.Rect.x_gap.Goals as goal

pub returns-clause-least : goal.returns-clause-least
returns-clause-least c =
    rw (← c.self.view_is, ← c.other.view_is)
    (IsXGap-ends _ _ _ c.self.invariant c.other.invariant c.gap.ensures.least)
