-- Which shapes are compared with one another (lefdef's own rules).
use Rattle.std.specs.Prelude.{◌≡◌, ◌≢◌, ℕ, Some}
use Rattle.leg_rules.specs.declared.shape.Shape.{Shape}
use Rattle.leg_rules.specs.Metal.Owner.{IsObstruction}

-- both shapes belong to one component
pub record AreOfOneComponent (a b : Shape) : Type 0 where
  pub component : ℕ
  pub of_a : a.component ≡ Some component
  pub of_b : b.component ≡ Some component

-- Two shapes are comparable if they lie on one layer, have different owners, are not of one component, and are not both of
-- obstructions or blockages.
pub record AreComparable (a b : Shape) : Type 0 where
  pub layer : a.layer ≡ b.layer
  pub owners : a.owner ≢ b.owner
  pub apart : ¬ AreOfOneComponent a b
  pub metal : IsObstruction a.owner → ¬ IsObstruction b.owner
