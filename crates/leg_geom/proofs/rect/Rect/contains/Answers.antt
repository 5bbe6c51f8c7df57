use Rattle.std.proofs.Common.{rules}
use Rattle.leg_geom.proofs.Axes.{HasAllPoints-numbers}
use Rattle.leg_geom.proofs.rect.Rect.contains.Goals as goal

pub returns-then-contains : goal.returns-then-contains
returns-then-contains c =
    rw (← c.self.view_is, ← c.other.view_is) (
      λ t. (HasAllPoints-numbers _ _ c.other.invariant).0 (c.if-contains.ensures.0 (search rules), c.contains-then-contains.ensures.0 t),
      λ s. c.contains-then-contains.ensures.1 ((HasAllPoints-numbers _ _ c.other.invariant).1 s).1,
    )

pub returns-else-contains : goal.returns-else-contains
returns-else-contains c =
    rw (← c.self.view_is, ← c.other.view_is) (
      λ t. absurd (search rules),
      λ s. c.contains.ensures.1 ((HasAllPoints-numbers _ _ c.other.invariant).1 s).0,
    )
