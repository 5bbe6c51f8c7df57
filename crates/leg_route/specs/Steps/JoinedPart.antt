-- What is kept of the joined part of a net from walk to walk, while other metal may come.
use Rattle.std.specs.Prelude.{◌≡◌, ◌↔◌, ◌⊎◌, ◌<◌, ◌≤◌, ℕ, Bool, true, List, ◌++◌, length, get_or, All, Contains, Some, slice_get}
use Rattle.leg_rules.specs.Metal.Flat.{FlatModel}
use Rattle.leg_rules.specs.Joins.Touch.{piece_count, LiesIn, Touch, AreJoined}
use Rattle.leg_rules.specs.declared.node.Node.{Node}
use Rattle.leg_wire.specs.declared.piece_shape.PieceShape.{PieceShape}
use Rattle.leg_wire.specs.Joins.{JoinsModel}
use Rattle.leg_wire.specs.PieceMarks.{AreMarks}
use Rattle.leg_route_grid.specs.declared.slot_box.SlotBox.{SlotBox}
use Rattle.leg_route_grid.specs.declared.hulls.Hull.{Hull}
use Rattle.leg_route_grid.specs.Steps.Hulls.{AreHulls}
use Rattle.leg_route_grid.specs.Steps.WalkBounds.{AreBoxed}
use Rattle.leg_route_grid.specs.Steps.Grid.{GridModel, IsNumberOf, slot_total}
use Rattle.leg_route_grid.specs.Steps.NodeNumbers.{IsOneOf}
use Rattle.leg_route_grid.specs.Steps.NodesInRect.{LiesInRect}
use Rattle.leg_route.specs.Steps.EndSlots.{IsFarSlot}
use Rattle.leg_route.specs.declared.joined_part.JoinedPart.{JoinedPart}
use Rattle.leg_route.specs.Steps.NetEnds.{EndsModel, ends_in, AreNetEnds}
use Rattle.leg_route.specs.Steps.NetSlots.{MeetsMarked, IsPartOf}

-- marks for the first pieces of a net, slots with the boxes in which they lie and the hulls of these, and ends
pub record PartModel : Type 0 where
  pub net : ℕ
  pub joined : List Bool
  pub boxes : List SlotBox
  pub slots : List ℕ
  pub hulls : List Hull
  pub ends : EndsModel

-- what the code keeps
abbrev pub part_in : {A : Type 0} → JoinedPart A → PartModel
part_in part = record {
  net = part.net;
  joined = part.joined.items;
  boxes = part.slots.boxes.items;
  slots = part.slots.slots.items;
  hulls = part.hulls.items;
  ends = ends_in part.ends;
}

-- the node meets a piece of the net that is marked
pub record MeetsPart (flat : FlatModel) (net : ℕ) (joined : List Bool) (node : Node) : Type 0 where
  pub piece : ℕ
  pub marked : slice_get joined piece ≡ Some true
  pub meets : LiesIn flat net piece node.layer node.at

-- the node meets this piece of the net
abbrev pub LiesInPiece : FlatModel → ℕ → ℕ → Node → Type 0
LiesInPiece flat net piece node = LiesIn flat net piece node.layer node.at

-- The marked pieces are joined to the net's first one, which is one of them, and no other of these pieces touches them. The slots are
-- exactly those of nodes that meet them, and the ends are of nodes that meet the other pieces.
pub record IsJoinedPart (grid : GridModel) (flat : FlatModel) (part : PartModel) : Type 0 where
  pub few : length part.joined ≤ piece_count flat part.net
  pub still : (k : ℕ) → slice_get part.joined k ≡ Some true → AreJoined flat part.net 0 k
  pub begun : 0 < length part.joined → slice_get part.joined 0 ≡ Some true
  pub closed : (a b : ℕ) → slice_get part.joined a ≡ Some true → b < length part.joined → Touch flat part.net a b → slice_get part.joined b ≡ Some true
  pub are : (n : ℕ) → Contains part.slots n ↔ IsOneOf (IsNumberOf grid) (MeetsPart flat part.net part.joined) n
  pub within : All (λ n. n < slot_total grid) part.slots
  pub boxed : AreBoxed grid part.boxes part.slots
  pub hulled : AreHulls part.boxes part.hulls
  pub ends_are : AreNetEnds grid flat part.net part.joined (LiesInPiece flat part.net) (IsFarSlot grid flat part.net part.boxes) part.ends

-- the pieces that were given are marked in the part, which is of that net
abbrev pub AreGivenTo : PartModel → JoinsModel → Type 0
AreGivenTo part joins = (k : ℕ) → Contains joins.given k → (joins.net ≡ part.net) × (slice_get part.joined k ≡ Some true)

-- these pieces are joined to the net's first one, and with those that are marked they are all that are
pub record HaveCome (flat : FlatModel) (net : ℕ) (joined : List Bool) (come : List ℕ) : Type 0 where
  pub are : (k : ℕ) → Contains come k → (k < piece_count flat net) × AreJoined flat net 0 k
  pub all : (k : ℕ) → k < piece_count flat net → AreJoined flat net 0 k → slice_get joined k ≡ Some true ⊎ Contains come k

-- the node lies in one of these shapes
pub record MeetsMetal (metal : List PieceShape) (node : Node) : Type 0 where
  pub shape : PieceShape
  pub has : Contains metal shape
  pub lies : LiesInRect shape.layer shape.rect node

-- the node lies in metal of one of these pieces
pub record MeetsPieces (metal : List PieceShape) (pieces : List ℕ) (node : Node) : Type 0 where
  pub shape : PieceShape
  pub has : Contains metal shape
  pub of_piece : Contains pieces shape.piece
  pub lies : LiesInRect shape.layer shape.rect node

-- the slots of such nodes have come to these, and boxes to theirs
pub record HaveGotSlots (grid : GridModel) (Holds : Node → Type 0) (boxes : List SlotBox) (slots : List ℕ)
    (boxes_after : List SlotBox) (slots_after : List ℕ) : Type 0 where
  pub are : (n : ℕ) → Contains slots_after n ↔ (Contains slots n ⊎ IsOneOf (IsNumberOf grid) Holds n)
  pub within : All (λ n. n < slot_total grid) slots → All (λ n. n < slot_total grid) slots_after
  pub boxed : AreBoxed grid boxes slots → AreBoxed grid boxes_after slots_after
  pub more : List SlotBox
  pub behind : boxes_after ≡ boxes ++ more

-- marks for this many pieces: those from before, and those of the pieces that came
pub record HaveMarked (before : List Bool) (count : ℕ) (come : List ℕ) (after : List Bool) : Type 0 where
  pub size : length after ≡ count
  pub marked : (k : ℕ) → slice_get after k ≡ Some true ↔ (slice_get before k ≡ Some true ⊎ Contains come k)

-- the part of a net as it was with other marks, and what has come to it with these
pub record IsGrowing (grid : GridModel) (flat : FlatModel) (numbers : List ℕ) (metal : List PieceShape) (come : List ℕ) (part : PartModel) : Type 0 where
  pub before : List Bool
  pub had : IsPartOf grid flat part.net before numbers part.boxes part.slots part.hulls part.ends
  pub still : (k : ℕ) → slice_get before k ≡ Some true → slice_get part.joined k ≡ Some true
  pub marks : AreMarks (AreJoined flat part.net 0) (piece_count flat part.net) part.joined
  pub long : length before ≤ length part.joined
  pub later : (k : ℕ) → length before ≤ k → k < length part.joined → get_or part.joined k true ≡ true
  pub comes : (node : Node) → MeetsMarked flat.shapes part.joined true numbers node
      → MeetsMarked flat.shapes before true numbers node ⊎ MeetsPieces metal come node
  pub only : (node : Node) → MeetsPieces metal come node → MeetsMarked flat.shapes part.joined true numbers node
