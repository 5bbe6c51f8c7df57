-- The slots at which walks of a net end, each with how many steps are left to it at least.
use Rattle.std.specs.Prelude.{◌≡◌, ◌↔◌, ◌⊎◌, ◌<◌, ◌≤◌, ℕ, Bool, false, List, length, get_or, min, All, Contains, Some, slice_get}
use Rattle.leg_geom.specs.Plane.{RectModel}
use Rattle.leg_rules.specs.declared.shape.Shape.{Shape}
use Rattle.leg_rules.specs.declared.node.Node.{Node}
use Rattle.leg_rules.specs.Metal.Flat.{FlatModel}
use Rattle.leg_rules.specs.Route.OpenMetal.{IsOpenNode, IsOpenStep}
use Rattle.leg_wire.specs.Steps.NumberSets.{AreTogether}
use Rattle.leg_route_search.specs.Steps.Dive.{IsOrigin, IsFarNode}
use Rattle.leg_route_grid.specs.declared.slot_box.SlotBox.{SlotBox}
use Rattle.leg_route_grid.specs.Steps.WalkBounds.{bound_at}
use Rattle.leg_route_grid.specs.Steps.Grid.{GridModel, IsNumberOf, slot_total}
use Rattle.leg_route_grid.specs.Steps.NodeNumbers.{IsOneOf, IsStepOf}
use Rattle.leg_route_grid.specs.Steps.NodesInRect.{LiesInRect}
use Rattle.leg_route.specs.declared.end_slots.EndSlot.{EndSlot}

-- the piece is one of those that have marks, and is not joined
abbrev pub IsApart : List Bool → ℕ → Type 0
IsApart joined piece = slice_get joined piece ≡ Some false

-- the node lies in one of the shapes of these numbers, which is of this piece
pub record MeetsPiece (shapes : List Shape) (numbers : List ℕ) (piece : ℕ) (node : Node) : Type 0 where
  pub number : ℕ
  pub listed : Contains numbers number
  pub shape : Shape
  pub there : slice_get shapes number ≡ Some shape
  pub of_piece : shape.piece ≡ Some piece
  pub lies : LiesInRect shape.layer shape.rect node

-- no fewer steps are left to the slot from these boxes
abbrev pub IsBoundFrom : GridModel → List SlotBox → ℕ → ℕ → Type 0
IsBoundFrom grid boxes steps n = steps ≤ bound_at grid boxes n

-- the slot is open to the net
abbrev pub IsOpenSlot : GridModel → FlatModel → ℕ → ℕ → Type 0
IsOpenSlot grid flat net n = IsOneOf (IsNumberOf grid) (IsOpenNode grid.design flat net) n

-- each open walk of the net from a slot in these boxes to the slot has at least this many steps
abbrev pub IsFarSlot : GridModel → FlatModel → ℕ → List SlotBox → ℕ → ℕ → Type 0
IsFarSlot grid flat net boxes steps n =
    IsFarNode (IsOpenSlot grid flat net) (IsStepOf (IsNumberOf grid) (IsOpenStep grid.design flat net))
    (IsOrigin (slot_total grid) (λ n. bound_at grid boxes n)) steps n

-- the slot is that of a node that meets such a piece, and is so many steps away
pub record IsEndSlot (grid : GridModel) (Apart : ℕ → Type 0) (Meets : ℕ → Node → Type 0) (Far : ℕ → ℕ → Type 0) (end : EndSlot) : Type 0 where
  pub apart : Apart end.piece
  pub meets : IsOneOf (IsNumberOf grid) (Meets end.piece) end.slot
  pub within : end.slot < slot_total grid
  pub least : Far end.least end.slot

-- an end at the slot stands in the list, in a piece whose first one is that of this piece
pub record HasEndFor (firsts : List ℕ) (ends : List EndSlot) (piece n : ℕ) : Type 0 where
  pub end : EndSlot
  pub has : Contains ends end
  pub together : AreTogether firsts end.piece piece
  pub of_slot : end.slot ≡ n

-- such ends, and there is one for each slot of such a node that is open
pub record AreEndSlots (grid : GridModel) (Apart : ℕ → Type 0) (Meets : ℕ → Node → Type 0) (Open : ℕ → Type 0) (Far : ℕ → ℕ → Type 0) (firsts : List ℕ)
    (ends : List EndSlot) : Type 0 where
  pub each : (end : EndSlot) → Contains ends end → IsEndSlot grid Apart Meets Far end
  pub all : (piece n : ℕ) → Apart piece → IsOneOf (IsNumberOf grid) (Meets piece) n → Open n → HasEndFor firsts ends piece n

-- the same ends, of which other numbers of steps may be known
pub record AreSameEnds (before after : List EndSlot) : Type 0 where
  pub one_each : length after ≡ length before
  pub piece : (k : ℕ) (d : EndSlot) → k < length before → (get_or after k d).piece ≡ (get_or before k d).piece
  pub slot : (k : ℕ) (d : EndSlot) → k < length before → (get_or after k d).slot ≡ (get_or before k d).slot

-- the slot of this number as an end in the piece
abbrev pub end_at : GridModel → List SlotBox → ℕ → ℕ → EndSlot
end_at grid boxes piece n = record { piece = piece; slot = n; least = min 4294967295 (bound_at grid boxes n) }

-- of these slots ends in the piece have come to the list, and it has one for each that is open
pub record HaveGotSlotEnds (grid : GridModel) (Open : ℕ → Type 0) (firsts : List ℕ) (boxes : List SlotBox) (piece : ℕ) (slots : List ℕ)
    (before after : List EndSlot) : Type 0 where
  pub each : (end : EndSlot) → Contains after end → Contains before end ⊎ ((n : ℕ) × Contains slots n × (end ≡ end_at grid boxes piece n))
  pub still : (end : EndSlot) → Contains before end → Contains after end
  pub all : (n : ℕ) → Contains slots n → Open n → HasEndFor firsts after piece n

-- the list has got the slots in the rectangle on this layer as ends in the piece
pub record HaveGotEnds (grid : GridModel) (Open : ℕ → Type 0) (firsts : List ℕ) (boxes : List SlotBox) (piece layer : ℕ) (rect : RectModel)
    (before after : List EndSlot) : Type 0 where
  pub slots : List ℕ
  pub got : HaveGotSlotEnds grid Open firsts boxes piece slots before after
  pub in_rect : (n : ℕ) → Contains slots n ↔ IsOneOf (IsNumberOf grid) (LiesInRect layer rect) n
  pub within : All (λ n. n < slot_total grid) slots

-- the same end, to which no more steps are left than from these boxes
abbrev pub end_from : GridModel → List SlotBox → EndSlot → EndSlot
end_from grid boxes end = record { piece = end.piece; slot = end.slot; least = min end.least (bound_at grid boxes end.slot) }

-- those of the ends whose pieces are not joined, when these boxes have come to the joined ones
pub record AreEndsLeft (grid : GridModel) (joined : List Bool) (boxes : List SlotBox) (ends left : List EndSlot) : Type 0 where
  pub each : (end : EndSlot) → Contains left end → (before : EndSlot) × Contains ends before × IsApart joined before.piece × (end ≡ end_from grid boxes before)
  pub all : (before : EndSlot) → Contains ends before → IsApart joined before.piece → Contains left (end_from grid boxes before)
