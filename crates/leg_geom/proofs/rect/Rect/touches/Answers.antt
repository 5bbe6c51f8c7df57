use Rattle.std.proofs.Common.{rules, inl, inr}
use Rattle.leg_geom.proofs.Touching.{ShareTwoPoints-x, ShareTwoPoints-y, ShareTwoPoints-step}
use Rattle.leg_geom.proofs.rect.Rect.touches.Goals as goal

pub returns-then-shares_step : goal.returns-then-shares_step
returns-then-shares_step c =
    let point = rw (← c.self.view_is, ← c.other.view_is) at (c.shares_point.ensures.0 (search rules)) in
    rw (← c.self.view_is, ← c.other.view_is) (
      λ t. ShareTwoPoints-x _ _ point (c.shares_step.ensures.0 t),
      λ s. search rules,
    )

pub returns-else-shares_step : goal.returns-else-shares_step
returns-else-shares_step c =
    let point = rw (← c.self.view_is, ← c.other.view_is) at (c.shares_point.ensures.0 (search rules)) in
    rw (← c.self.view_is, ← c.other.view_is) (
      λ t. ShareTwoPoints-y _ _ point (c.shares_step-else-shares_step.ensures.0 t),
      λ s. elim (ShareTwoPoints-step _ _ s) [
        | inl x ↦ absurd (search rules)
        | inr y ↦ c.shares_step-else-shares_step.ensures.1 y
      ],
    )
