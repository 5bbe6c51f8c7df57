-- Shapes by their numbers.
use Rattle.std.specs.Prelude.{ℕ, ◌<◌, List, All, AllPairs, Contains}
use Rattle.leg_rules.specs.declared.shape.Shape.{Shape}
use Rattle.leg_rules.specs.Metal.Flat.{FlatModel}
use Rattle.leg_drc.specs.Violations.{IsShapeWith}

-- the numbers of exactly the shapes of the flat for which this holds, in increasing order
pub record AreNumbersWhere (Holds : Shape → Type 0) (flat : FlatModel) (numbers : List ℕ) : Type 0 where
  pub increasing : AllPairs (λ j k. j < k) numbers
  pub each : All (IsShapeWith Holds flat) numbers
  pub all : (k : ℕ) → IsShapeWith Holds flat k → Contains numbers k
