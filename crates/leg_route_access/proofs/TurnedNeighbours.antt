-- What lies on a side of a node has it on the other, and each is one nearer at most.
use Rattle.std.proofs.Common.{ℕ, List}
use Rattle.leg_rules.specs.declared.side.Side.{Side}
use Rattle.leg_route_search.specs.Steps.Side.{opposite}
use Rattle.leg_rules.specs.declared.side.Side.TheVariants.{West, East, South, North, Below, Above}
use Rattle.leg_route_grid.specs.declared.slot_box.SlotBox.{SlotBox}
use Rattle.leg_route_grid.specs.Steps.Grid.{GridModel, IsDesignGrid}
use Rattle.leg_route_grid.specs.Steps.NodeNumbers.{IsNeighbourAt}
use Rattle.leg_route_grid.proofs.Bounds.{one_nearer}
use Rattle.leg_route_access.specs.Steps.NearNeighbours.{IsNeighbourNear}

-- what lies on a side of a node has it on the other
pub turned_beside : (grid : GridModel) (side : Side) (n to : ℕ) → IsNeighbourAt grid side n to → IsNeighbourAt grid (opposite side) to n
turned_beside grid West n to step = record { a = step.b; b = step.a; a_is = step.b_is; b_is = step.a_is; step = step.step }
turned_beside grid East n to step = record { a = step.b; b = step.a; a_is = step.b_is; b_is = step.a_is; step = step.step }
turned_beside grid South n to step = record { a = step.b; b = step.a; a_is = step.b_is; b_is = step.a_is; step = step.step }
turned_beside grid North n to step = record { a = step.b; b = step.a; a_is = step.b_is; b_is = step.a_is; step = step.step }
turned_beside grid Below n to step = record { a = step.b; b = step.a; a_is = step.b_is; b_is = step.a_is; step = step.step }
turned_beside grid Above n to step = record { a = step.b; b = step.a; a_is = step.b_is; b_is = step.a_is; step = step.step }

pub beside_near : (grid : GridModel) (starts ends : List SlotBox) (side : Side) (n to : ℕ) → IsDesignGrid grid → IsNeighbourAt grid side n to
    → IsNeighbourNear grid starts ends side n to
beside_near grid starts ends side n to is_grid step =
    let back = turned_beside grid side n to step in record {
      beside = step;
      across = back;
      nearer = one_nearer grid ends side n to is_grid step;
      nearer_across = one_nearer grid ends (opposite side) to n is_grid back;
      further = one_nearer grid starts (opposite side) to n is_grid back;
      further_across = one_nearer grid starts side n to is_grid step;
    }
