-- The first step of a walk.
use Rattle.std.proofs.Common.{◌≡◌, ℕ, ◌⊎◌, inl, inr, List, Some, slice_get, sym, ◌∙◌}
use Rattle.std.proofs.lemmas.Option.{same_Some}
use Rattle.leg_design_records.specs.Records.{DesignModel}
use Rattle.leg_rules.specs.declared.side.Side.{Side}
use Rattle.leg_rules.specs.declared.side.Side.TheVariants.{West, East, South, North, Below, Above}
use Rattle.leg_rules.specs.declared.node.Node.{Node}
use Rattle.leg_rules.specs.Route.Neighbours.{IsOver, IsNeighbour}
use Rattle.leg_rules.specs.Route.GridWalk.{IsGridWalk}
use Rattle.leg_rules.specs.Route.Spelling.{IsOnLayer}
use Rattle.leg_route_access.specs.Steps.Towards.{LiesDue}
use Rattle.leg_route_access.proofs.NodeSides.{due}

-- a step to a side that isn't on the layer is one by a via
pub by_via : (design : DesignModel) (side : Side) (a b : Node) → ¬ IsOnLayer side → IsNeighbour design side a b
    → (via : ℕ) × (IsOver design via a b ⊎ IsOver design via b a)
by_via design West a b off is = absurd (off tt)
by_via design East a b off is = absurd (off tt)
by_via design South a b off is = absurd (off tt)
by_via design North a b off is = absurd (off tt)
by_via design Below a b off is = (is.0, inr is.1)
by_via design Above a b off is = (is.0, inl is.1)

module _ (design : DesignModel) (nodes : List Node) (walk : IsGridWalk design nodes) (from next : Node) (at_from : slice_get nodes 0 ≡ Some from)
    (at_next : slice_get nodes 1 ≡ Some next) (side : Side)
    (towards : (other : Side) → LiesDue other from next → side ≡ other) where
  pub first_beside : IsNeighbour design side from next
  first_beside =
      let beside = walk.beside 0 from next at_from at_next in
      let same : side ≡ beside.0 = towards beside.0 (due design beside.0 from next beside.1) in
      rw same beside.1

  pub first_any : (x y : Node) → slice_get nodes 0 ≡ Some x → slice_get nodes 1 ≡ Some y → IsNeighbour design side x y
  first_any x y at_x at_y =
      let x_is : x ≡ from = sym (same_Some from x (sym at_from ∙ at_x)) in
      let y_is : y ≡ next = sym (same_Some next y (sym at_next ∙ at_y)) in
      rw (x_is, y_is) first_beside
