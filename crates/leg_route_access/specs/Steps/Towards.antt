-- Where one node lies from another, by their layers and coordinates alone.
use Rattle.std.specs.Prelude.{◌≡◌, ℕ, ◌+◌, ◌<◌, ◌<ℤ◌, List, Some, slice_get}
use Rattle.leg_rules.specs.declared.side.Side.{Side}
use Rattle.leg_rules.specs.declared.side.Side.TheVariants.{West, East, South, North, Below, Above}
use Rattle.leg_rules.specs.declared.node.Node.{Node}

-- b lies further to this side than a
abbrev pub LiesTowards : Side → Node → Node → Type 0
LiesTowards West a b = (b.layer ≡ a.layer) × (b.at.x <ℤ a.at.x)
LiesTowards East a b = (b.layer ≡ a.layer) × (a.at.x <ℤ b.at.x)
LiesTowards South a b = (b.layer ≡ a.layer) × (b.at.y <ℤ a.at.y)
LiesTowards North a b = (b.layer ≡ a.layer) × (a.at.y <ℤ b.at.y)
LiesTowards Below a b = b.layer < a.layer
LiesTowards Above a b = a.layer < b.layer

-- b lies straight to this side of a
abbrev pub LiesDue : Side → Node → Node → Type 0
LiesDue West a b = (b.layer ≡ a.layer) × (b.at.y ≡ a.at.y) × (b.at.x <ℤ a.at.x)
LiesDue East a b = (b.layer ≡ a.layer) × (b.at.y ≡ a.at.y) × (a.at.x <ℤ b.at.x)
LiesDue South a b = (b.layer ≡ a.layer) × (b.at.x ≡ a.at.x) × (b.at.y <ℤ a.at.y)
LiesDue North a b = (b.layer ≡ a.layer) × (b.at.x ≡ a.at.x) × (a.at.y <ℤ b.at.y)
LiesDue Below a b = b.layer < a.layer
LiesDue Above a b = a.layer < b.layer

-- after the first step the nodes go on towards this side as far as node n, and no further
pub record IsRunTowards (side : Side) (nodes : List Node) (n : ℕ) : Type 0 where
  pub straight : (k : ℕ) (a b : Node) → 0 < k → k < n → slice_get nodes k ≡ Some a → slice_get nodes (k + 1) ≡ Some b → LiesTowards side a b
  pub ends : (a b : Node) → slice_get nodes n ≡ Some a → slice_get nodes (n + 1) ≡ Some b → ¬ LiesTowards side a b
