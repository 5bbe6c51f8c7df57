-- The steps of the grid (lefdef's own rules). A step goes along its layer's direction to the next value of the grid, or by a via to
-- the next routing layer.
use Rattle.std.specs.Prelude.{◌≡◌, ℕ, ◌⊎◌, ℤ, ◌<ℤ◌}
use Rattle.leg_lib_records.specs.declared.records.Direction.TheVariants.{Horizontal, Vertical}
use Rattle.leg_design_records.specs.Records.{DesignModel}
use Rattle.leg_rules.specs.declared.side.Side.{Side}
use Rattle.leg_rules.specs.declared.side.Side.TheVariants.{West, East, South, North, Below, Above}
use Rattle.leg_rules.specs.declared.node.Node.{Node}
use Rattle.leg_rules.specs.Route.Tracks.{Runs, IsGridX, IsGridY}
use Rattle.leg_rules.specs.Route.Nodes.{IsNode}
use Rattle.leg_rules.specs.Route.Between.{IsVia}

-- of such values b is the next one after a
pub record IsNext (IsValue : ℤ → Type 0) (a b : ℤ) : Type 0 where
  pub a_is : IsValue a
  pub b_is : IsValue b
  pub less : a <ℤ b
  pub none_between : (c : ℤ) → IsValue c → a <ℤ c → ¬ (c <ℤ b)

-- b is the node to the east of a, on one horizontal layer
pub record IsEast (design : DesignModel) (a b : Node) : Type 0 where
  pub a_is : IsNode design a
  pub b_is : IsNode design b
  pub width : ℤ
  pub horizontal : Runs design.library a.layer Horizontal width
  pub layer : b.layer ≡ a.layer
  pub level : b.at.y ≡ a.at.y
  pub next : IsNext (IsGridX design) a.at.x b.at.x

-- b is the node to the north of a, on one vertical layer
pub record IsNorth (design : DesignModel) (a b : Node) : Type 0 where
  pub a_is : IsNode design a
  pub b_is : IsNode design b
  pub width : ℤ
  pub vertical : Runs design.library a.layer Vertical width
  pub layer : b.layer ≡ a.layer
  pub upright : b.at.x ≡ a.at.x
  pub next : IsNext (IsGridY design) a.at.y b.at.y

-- b is the node above a, at the same point, and this via of the library leads there
pub record IsOver (design : DesignModel) (via : ℕ) (a b : Node) : Type 0 where
  pub a_is : IsNode design a
  pub b_is : IsNode design b
  pub at : b.at ≡ a.at
  pub via_is : IsVia design.library a.layer b.layer via

-- b is the node beside a on this side
abbrev pub IsNeighbour : DesignModel → Side → Node → Node → Type 0
IsNeighbour design West a b = IsEast design b a
IsNeighbour design East a b = IsEast design a b
IsNeighbour design South a b = IsNorth design b a
IsNeighbour design North a b = IsNorth design a b
IsNeighbour design Below a b = (via : ℕ) × IsOver design via b a
IsNeighbour design Above a b = (via : ℕ) × IsOver design via a b

-- b is beside a on one layer
abbrev pub IsInLine : DesignModel → Node → Node → Type 0
IsInLine design a b =
    (IsEast design b a ⊎ IsEast design a b) ⊎ (IsNorth design b a ⊎ IsNorth design a b)
