-- When two shapes are one and the same.
use Rattle.std.specs.Prelude.{◌≡◌}
use Rattle.leg_rules.specs.declared.shape.Shape.{Shape}

-- the same metal, of one owner, one component and one piece
pub record AreSame (a b : Shape) : Type 0 where
  pub layer : a.layer ≡ b.layer
  pub rect : a.rect ≡ b.rect
  pub owner : a.owner ≡ b.owner
  pub component : a.component ≡ b.component
  pub piece : a.piece ≡ b.piece
