-- Walks over the grid, given by the numbers of slots.
use Rattle.std.specs.Prelude.{ℕ, List, Contains}
use Rattle.leg_rules.specs.Metal.Flat.{FlatModel}
use Rattle.leg_rules.specs.Route.Walk.{IsShortest, NoWalk}
use Rattle.leg_rules.specs.declared.side.Side.{Side}
use Rattle.leg_rules.specs.declared.node.Node.{Node}
use Rattle.leg_rules.specs.Route.Neighbours.{IsNeighbour}
use Rattle.leg_rules.specs.Route.OpenMetal.{IsOpenNode, IsOpenStep}
use Rattle.leg_rules.specs.Route.Meets.{MeetsJoined, MeetsRest}
use Rattle.leg_route_grid.specs.Steps.Grid.{GridModel, IsNumberOf}

-- this holds of the node of this number
pub record IsOneOf {Point : Type 0} (Number : ℕ → Point → Type 0) (P : Point → Type 0) (n : ℕ) : Type 0 where
  pub node : Point
  pub is : Number n node
  pub holds : P node

-- the node has one of these numbers
pub record IsNodeAmong (grid : GridModel) (numbers : List ℕ) (node : Node) : Type 0 where
  pub n : ℕ
  pub has : Contains numbers n
  pub is : IsNumberOf grid n node

-- there is such a step from the node of the one number to that of the other
pub record IsStepOf {Point : Type 0} (Number : ℕ → Point → Type 0) (Step : Point → Point → Type 0) (m n : ℕ) : Type 0 where
  pub a : Point
  pub b : Point
  pub a_is : Number m a
  pub b_is : Number n b
  pub step : Step a b

-- the numbers of a shortest open walk from the net's joined part to the rest
abbrev pub IsNextWalkAt : GridModel → FlatModel → ℕ → List ℕ → Type 0
IsNextWalkAt grid flat net numbers =
    IsShortest (IsOneOf (IsNumberOf grid) (IsOpenNode grid.design flat net)) (IsStepOf (IsNumberOf grid) (IsOpenStep grid.design flat net))
    (IsOneOf (IsNumberOf grid) (MeetsJoined flat net)) (IsOneOf (IsNumberOf grid) (MeetsRest flat net)) numbers

-- there are no numbers of such a walk
abbrev pub HasNoWalkAt : GridModel → FlatModel → ℕ → Type 0
HasNoWalkAt grid flat net =
    NoWalk (IsOneOf (IsNumberOf grid) (IsOpenNode grid.design flat net)) (IsStepOf (IsNumberOf grid) (IsOpenStep grid.design flat net))
    (IsOneOf (IsNumberOf grid) (MeetsJoined flat net)) (IsOneOf (IsNumberOf grid) (MeetsRest flat net))

-- the node of the number n lies on this side of the node of the number m
abbrev pub IsNeighbourAt : GridModel → Side → ℕ → ℕ → Type 0
IsNeighbourAt grid side m n = IsStepOf (IsNumberOf grid) (IsNeighbour grid.design side) m n

-- the step from the node of the number n to the node on this side of it is open to the net
pub record IsOpenStepAt (grid : GridModel) (flat : FlatModel) (net : ℕ) (side : Side) (n : ℕ) : Type 0 where
  pub a : Node
  pub b : Node
  pub a_is : IsNumberOf grid n a
  pub beside : IsNeighbour grid.design side a b
  pub is_open : IsOpenStep grid.design flat net a b
