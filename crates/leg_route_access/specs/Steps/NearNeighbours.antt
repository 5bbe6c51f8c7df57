-- Neighbours in a grid, of which each is one nearer at most to the starts and to the ends of a walk than the other (lefdef's own rule).
use Rattle.std.specs.Prelude.{ℕ, ◌+◌, ◌≤◌, List}
use Rattle.leg_rules.specs.declared.side.Side.{Side}
use Rattle.leg_route_search.specs.Steps.Side.{opposite, across_twice}
use Rattle.leg_route_grid.specs.declared.slot_box.SlotBox.{SlotBox}
use Rattle.leg_route_grid.specs.Steps.Grid.{GridModel}
use Rattle.leg_route_grid.specs.Steps.NodeNumbers.{IsNeighbourAt}
use Rattle.leg_route_grid.specs.Steps.WalkBounds.{bound_at}

-- the node of the number b lies on this side of the node of the number a, and that of a across from it; each is one nearer at
-- most to the starts and to the ends than the other, as all such nodes are
pub record IsNeighbourNear (grid : GridModel) (starts ends : List SlotBox) (side : Side) (a b : ℕ) : Type 0 where
  pub beside : IsNeighbourAt grid side a b
  pub across : IsNeighbourAt grid (opposite side) b a
  pub nearer : bound_at grid ends a ≤ bound_at grid ends b + 1
  pub nearer_across : bound_at grid ends b ≤ bound_at grid ends a + 1
  pub further : bound_at grid starts b ≤ bound_at grid starts a + 1
  pub further_across : bound_at grid starts a ≤ bound_at grid starts b + 1

-- the same, seen from the other node
pub turned_near : (grid : GridModel) (starts ends : List SlotBox) (side : Side) (a b : ℕ) → IsNeighbourNear grid starts ends side a b
    → IsNeighbourNear grid starts ends (opposite side) b a
turned_near grid starts ends side a b near = record {
  beside = near.across;
  across = across_twice (λ (s : Side). IsNeighbourAt grid s a b) side near.beside;
  nearer = near.nearer_across;
  nearer_across = near.nearer;
  further = near.further_across;
  further_across = near.further;
}
