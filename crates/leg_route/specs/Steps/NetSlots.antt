-- Which slots lie in the metal of a net, and what a search over slots answers.
use Rattle.std.specs.Prelude.{◌≡◌, ◌↔◌, ◌<◌, ℕ, Bool, true, false, List, All, Contains, Option, None, Some, slice_get}
use Rattle.leg_rules.specs.declared.shape.Shape.{Shape}
use Rattle.leg_rules.specs.Metal.Flat.{FlatModel}
use Rattle.leg_rules.specs.declared.node.Node.{Node}
use Rattle.leg_route_grid.specs.declared.slot_box.SlotBox.{SlotBox}
use Rattle.leg_route_grid.specs.declared.hulls.Hull.{Hull}
use Rattle.leg_route_grid.specs.Steps.Hulls.{AreHulls}
use Rattle.leg_route_grid.specs.Steps.WalkBounds.{AreBoxed}
use Rattle.leg_route_grid.specs.Steps.Grid.{GridModel, IsNumberOf, slot_total}
use Rattle.leg_route_grid.specs.Steps.NodeNumbers.{IsOneOf, IsStepOf, IsNextWalkAt, HasNoWalkAt}
use Rattle.leg_route_grid.specs.Steps.NodesInRect.{LiesInRect}
use Rattle.leg_rules.specs.Route.Meets.{MeetsJoined}
use Rattle.leg_rules.specs.Route.OpenMetal.{IsOpenNode, IsOpenStep}
use Rattle.leg_route_search.specs.Steps.Search.{IsRound}
use Rattle.leg_route_access.specs.declared.slot_access.SlotAccess.{SlotAccess}
use Rattle.leg_route_access.specs.Steps.AccessTable.{IsAccessTable}
use Rattle.leg_route.specs.Steps.EndSlots.{MeetsPiece, IsFarSlot}
use Rattle.leg_route.specs.Steps.NetEnds.{EndsModel, AreNetEnds}

-- the piece is one of those that have marks, and its mark is this one
pub record HasMark (marks : List Bool) (mark : Bool) (piece : Option ℕ) : Type 0 where
  pub number : ℕ
  pub is : piece ≡ Some number
  pub marked : slice_get marks number ≡ Some mark

-- the node lies in one of the shapes of these numbers, whose piece has this mark
pub record MeetsMarked (shapes : List Shape) (marks : List Bool) (mark : Bool) (numbers : List ℕ) (node : Node) : Type 0 where
  pub number : ℕ
  pub listed : Contains numbers number
  pub shape : Shape
  pub there : slice_get shapes number ≡ Some shape
  pub marked : HasMark marks mark shape.piece
  pub lies : LiesInRect shape.layer shape.rect node

-- exactly the slots of such nodes, which lie in these boxes
pub record AreMarkedSlots (grid : GridModel) (shapes : List Shape) (marks : List Bool) (mark : Bool) (numbers : List ℕ)
    (boxes : List SlotBox) (slots : List ℕ) : Type 0 where
  pub are : (n : ℕ) → Contains slots n ↔ IsOneOf (IsNumberOf grid) (MeetsMarked shapes marks mark numbers) n
  pub within : All (λ n. n < slot_total grid) slots
  pub boxed : AreBoxed grid boxes slots

-- the slots of the joined part of a net, with the hulls of their boxes, and the slots of the rest
pub record IsPartOf (grid : GridModel) (flat : FlatModel) (net : ℕ) (joined : List Bool) (numbers : List ℕ)
    (boxes : List SlotBox) (slots : List ℕ) (hulls : List Hull) (ends : EndsModel) : Type 0 where
  pub starts : AreMarkedSlots grid flat.shapes joined true numbers boxes slots
  pub hulled : AreHulls boxes hulls
  pub ends_are : AreNetEnds grid flat net joined (MeetsPiece flat.shapes numbers) (IsFarSlot grid flat net boxes) ends

-- what a search of the net is given: what is open, and the slots in which its walks begin, with their boxes and the hulls of these
pub record IsSearchFrom (grid : GridModel) (flat : FlatModel) (slots : List SlotAccess) (net : ℕ) (starts : List ℕ) (boxes : List SlotBox)
    (hulls : List Hull) : Type 0 where
  pub told : IsAccessTable grid flat slots
  pub are : (n : ℕ) → Contains starts n ↔ IsOneOf (IsNumberOf grid) (MeetsJoined flat net) n
  pub within : All (λ n. n < slot_total grid) starts
  pub boxed : AreBoxed grid boxes starts
  pub hulled : AreHulls boxes hulls

-- the numbers of the slots of a shortest open walk from the net's joined part to the rest, or none where there is no such walk
abbrev pub IsNextAnswerAt : GridModel → FlatModel → ℕ → Option (List ℕ) → Type 0
IsNextAnswerAt grid flat net None = HasNoWalkAt grid flat net
IsNextAnswerAt grid flat net (Some numbers) = IsNextWalkAt grid flat net numbers

-- what a search nearby answers whose walks end in these slots
abbrev pub IsNearestAt : GridModel → FlatModel → ℕ → List ℕ → Bool → Option (List ℕ) → Type 0
IsNearestAt grid flat net ends left_out answer =
    IsRound (IsOneOf (IsNumberOf grid) (IsOpenNode grid.design flat net)) (IsStepOf (IsNumberOf grid) (IsOpenStep grid.design flat net))
    (IsOneOf (IsNumberOf grid) (MeetsJoined flat net)) (Contains ends) left_out answer

-- a walk to the rest, where one was looked for nearby: if none was found, there is none unless something was left out
abbrev pub IsNearAnswerAt : GridModel → FlatModel → ℕ → Bool → Option (List ℕ) → Type 0
IsNearAnswerAt grid flat net left_out None = left_out ≡ false → HasNoWalkAt grid flat net
IsNearAnswerAt grid flat net left_out (Some numbers) = IsNextWalkAt grid flat net numbers
