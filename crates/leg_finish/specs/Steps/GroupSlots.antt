-- Which slots lie in the metal of some pieces of a net.
use Rattle.std.specs.Prelude.{◌≡◌, ◌↔◌, ◌<◌, ◌==◌, ℕ, Bool, List, All, Contains, Option, Some, slice_get}
use Rattle.leg_rules.specs.declared.shape.Shape.{Shape}
use Rattle.leg_rules.specs.declared.node.Node.{Node}
use Rattle.leg_route_grid.specs.declared.slot_box.SlotBox.{SlotBox}
use Rattle.leg_route_grid.specs.Steps.WalkBounds.{AreBoxed}
use Rattle.leg_route_grid.specs.Steps.Grid.{GridModel, IsNumberOf, slot_total}
use Rattle.leg_route_grid.specs.Steps.NodesInRect.{LiesInRect}
use Rattle.leg_route_grid.specs.Steps.NodeNumbers.{IsOneOf}

-- the piece is one for which the least piece that it is joined to is known, and that one is `first` or isn't, as `is_joined` says
pub record IsJoinedAs (firsts : List ℕ) (first : ℕ) (is_joined : Bool) (piece : Option ℕ) : Type 0 where
  pub number : ℕ
  pub is : piece ≡ Some number
  pub least : ℕ
  pub there : slice_get firsts number ≡ Some least
  pub same : (least == first) ≡ is_joined

-- the node lies in one of the shapes of these numbers, whose piece is one of those meant
pub record MeetsShapeOf (shapes : List Shape) (IsMeant : Option ℕ → Type 0) (numbers : List ℕ) (node : Node) : Type 0 where
  pub number : ℕ
  pub listed : Contains numbers number
  pub shape : Shape
  pub there : slice_get shapes number ≡ Some shape
  pub meant : IsMeant shape.piece
  pub lies : LiesInRect shape.layer shape.rect node

-- exactly the slots of such nodes, which lie in these boxes
pub record AreSlotsOf (grid : GridModel) (shapes : List Shape) (IsMeant : Option ℕ → Type 0) (numbers : List ℕ)
    (boxes : List SlotBox) (slots : List ℕ) : Type 0 where
  pub are : (n : ℕ) → Contains slots n ↔ IsOneOf (IsNumberOf grid) (MeetsShapeOf shapes IsMeant numbers) n
  pub within : All (λ n. n < slot_total grid) slots
  pub boxed : AreBoxed grid boxes slots
