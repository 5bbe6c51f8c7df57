-- Open walks are walks over the grid.
use Rattle.std.proofs.Common.{◌≡◌, ℕ, suc, zero, ◌<◌, inl, inr, List, length, Some, slice_get, add-one, arith}
use Rattle.std.proofs.lemmas.Option.{same_Some, none-some}
use Rattle.leg_design_records.specs.declared.records.Wire.{Wire}
use Rattle.leg_design_records.specs.Records.{DesignModel}
use Rattle.leg_rules.specs.Metal.Flat.{FlatModel}
use Rattle.leg_rules.specs.declared.side.Side.{Side}
use Rattle.leg_rules.specs.declared.side.Side.TheVariants.{West, East, South, North, Below, Above}
use Rattle.leg_rules.specs.Route.Walk.{Walk, here, on}
use Rattle.leg_rules.specs.declared.node.Node.{Node}
use Rattle.leg_rules.specs.Route.Neighbours.{IsNeighbour}
use Rattle.leg_rules.specs.Route.StepWires.{StepAdds}
use Rattle.leg_rules.specs.Route.OpenMetal.{IsOpenNode, IsOpenStep}
use Rattle.leg_rules.specs.Route.GridWalk.{IsGridWalk}

module _ (design : DesignModel) (flat : FlatModel) (net : ℕ) where
  side_there : (a b : Node) (wire : Wire) → StepAdds design a b wire → (side : Side) × IsNeighbour design side a b
  side_there a b wire (inl line) = elim line.in_line [
    | inl (inl is) ↦ (West, is)
    | inl (inr is) ↦ (East, is)
    | inr (inl is) ↦ (South, is)
    | inr (inr is) ↦ (North, is)
  ]
  side_there a b wire (inr via) = elim via.over [
    | inl up ↦ (Above, (via.via, up))
    | inr down ↦ (Below, (via.via, down))
  ]

  all_open : {a b : Node} {nodes : List Node} → Walk (IsOpenNode design flat net) (IsOpenStep design flat net) a nodes b → (k : ℕ) (x : Node)
      → slice_get nodes k ≡ Some x → IsOpenNode design flat net x
  all_open {a} (here is_open) zero x is = rw (← same_Some a x is) is_open
  all_open {a} (here is_open) (suc k) x is = absurd (none-some x is)
  all_open {a} (on is_open step rest) zero x is = rw (← same_Some a x is) is_open
  all_open {a} (on is_open step rest) (suc k) x is = all_open rest k x is

  starts : {a b : Node} {nodes : List Node} → Walk (IsOpenNode design flat net) (IsOpenStep design flat net) a nodes b → (x : Node)
      → slice_get nodes 0 ≡ Some x → a ≡ x
  starts {a} (here is_open) x is = same_Some a x is
  starts {a} (on is_open step rest) x is = same_Some a x is

  all_step : {a b : Node} {nodes : List Node} → Walk (IsOpenNode design flat net) (IsOpenStep design flat net) a nodes b
      → (k : ℕ) (x y : Node) → slice_get nodes k ≡ Some x → slice_get nodes (suc k) ≡ Some y → IsOpenStep design flat net x y
  all_step (here is_open) k x y at_x at_y = absurd (none-some y at_y)
  all_step {a} (on is_open step rest) zero x y at_x at_y = rw (← same_Some a x at_x, ← starts rest y at_y) step
  all_step (on is_open step rest) (suc k) x y at_x at_y = all_step rest k x y at_x at_y

  some_node : {a b : Node} {nodes : List Node} → Walk (IsOpenNode design flat net) (IsOpenStep design flat net) a nodes b → 0 < length nodes
  some_node (here is_open) = omega arith
  some_node (on is_open step rest) = omega arith

  pub grid_walk : {a b : Node} {nodes : List Node} → Walk (IsOpenNode design flat net) (IsOpenStep design flat net) a nodes b → IsGridWalk design nodes
  grid_walk {nodes = nodes} walk = record {
    some = some_node walk;
    each = λ k x is. (all_open walk k x is).is_node;
    beside = λ k x y at_x at_y.
        let next : slice_get nodes (suc k) ≡ Some y = rw add-one at at_y in
        let step = all_step walk k x y at_x next in
        side_there x y step.wire step.adds;
  }
