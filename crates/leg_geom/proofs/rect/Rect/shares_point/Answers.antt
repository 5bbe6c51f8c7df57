use Rattle.std.proofs.Common.{rules}
use Rattle.leg_geom.proofs.Axes.{SharePoint-numbers}
use Rattle.leg_geom.proofs.rect.Rect.shares_point.Goals as goal

pub returns-then-shares_number : goal.returns-then-shares_number
returns-then-shares_number c =
    rw (← c.self.view_is, ← c.other.view_is) (
      λ t. (SharePoint-numbers _ _).0 (c.if-shares_number.ensures.0 (search rules), c.shares_number-then-shares_number.ensures.0 t),
      λ s. c.shares_number-then-shares_number.ensures.1 ((SharePoint-numbers _ _).1 s).1,
    )
