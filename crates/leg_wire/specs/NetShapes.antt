-- The shapes of a net, by their numbers.
use Rattle.std.specs.Prelude.{◌≡◌, ◌<◌, ℕ, List, AllPairs, Contains, Some, slice_get}
use Rattle.leg_rules.specs.declared.owner.Owner.TheVariants.{Net}
use Rattle.leg_rules.specs.declared.shape.Shape.{Shape}

-- the shape of this number belongs to the net
pub record IsOfNet (shapes : List Shape) (net k : ℕ) : Type 0 where
  pub shape : Shape
  pub at : slice_get shapes k ≡ Some shape
  pub owner : shape.owner ≡ Net net

-- the numbers of exactly the shapes of the net, in increasing order
pub record AreNumbersOf (shapes : List Shape) (net : ℕ) (numbers : List ℕ) : Type 0 where
  pub increasing : AllPairs (λ j k. j < k) numbers
  pub each : (k : ℕ) → Contains numbers k → IsOfNet shapes net k
  pub all : (k : ℕ) → IsOfNet shapes net k → Contains numbers k
