-- Nodes of an index in a list: a group comes before its members.
use Rattle.std.specs.Prelude.{◌≡◌, ℕ, ◌+◌, ◌-◌, ◌≤◌, ◌<◌, List, [], ◌∷◌, ◌++◌, length, take, slice_set, slice_get, Some, All, Contains, IsPermutation}
use Rattle.leg_geom.specs.Plane.{RectModel, IsRect}
use Rattle.leg_sweep.specs.declared.bounds.Bounds.{Bounds}
use Rattle.leg_sweep.specs.declared.node.Content.{Content}
use Rattle.leg_sweep.specs.declared.node.Content.TheVariants.{Group, Rect}
use Rattle.leg_sweep.specs.declared.node.Node.{Node}
use Rattle.leg_sweep.specs.declared.bounds.Window.{Window}
use Rattle.leg_sweep.specs.NearNumbers.{number_in, numbers_of}
use Rattle.leg_sweep.specs.Steps.Bounds.{bounds_around, IsWithin, IsWindow}

-- how many of the nodes after it are a node's members
abbrev pub members_of : Content → ℕ
members_of (Group members) = members
members_of (Rect number) = 0

-- Each node's members are among the nodes after it, and lie within its bounds.
abbrev pub IsForest : List Node → Type 0
IsForest [] = Unit {0}
IsForest (node ∷ rest) =
    (members_of node.content ≤ length rest) × All (λ member. IsWithin member.bounds node.bounds) (take (members_of node.content) rest) × IsForest rest

-- the bounds are those of the rectangle with the number
pub record HasBoundsOf (rects : List RectModel) (number : ℕ) (bounds : Bounds) : Type 0 where
  pub rect : RectModel
  pub there : slice_get rects number ≡ Some rect
  pub proper : IsRect rect
  pub are : bounds ≡ bounds_around rect 0

-- a node of a rectangle has its bounds
abbrev pub IsRightAt : List RectModel → Bounds → Content → Type 0
IsRightAt rects bounds (Group members) = Unit {0}
IsRightAt rects bounds (Rect number) = HasBoundsOf rects number bounds

abbrev pub IsRight : List RectModel → Node → Type 0
IsRight rects node = IsRightAt rects node.bounds node.content

-- what a search has yet to look at
pub record IsSearch (rects : List RectModel) (w : Window) (nodes : List Node) : Type 0 where
  pub forest : IsForest nodes
  pub right : All (IsRight rects) nodes
  pub window : IsWindow w

-- nodes of the rectangles from this number on
pub record AreNodesFrom (rects : List RectModel) (first : ℕ) (nodes : List Node) : Type 0 where
  pub forest : IsForest nodes
  pub right : All (IsRight rects) nodes
  pub all : (number : ℕ) → first ≤ number → number < length rects → Contains (numbers_of nodes) number

-- The node at this place is now one for a group of all that follow it.
pub record IsGrouped (bounds : Bounds) (at : ℕ) (before after : List Node) : Type 0 where
  pub node : Node
  pub is : after ≡ slice_set before at node
  pub around : node.bounds ≡ bounds
  pub members : members_of node.content ≤ length before - (at + 1)
  pub group : number_in node.content ≡ []
  pub right : (rects : List RectModel) → IsRight rects node

-- After the nodes that were there are now those of the rectangles with these numbers, all within the bounds.
pub record AreGrouped (rects : List RectModel) (numbers : List ℕ) (bounds : Bounds) (before after : List Node) : Type 0 where
  pub nodes : List Node
  pub are : after ≡ before ++ nodes
  pub forest : IsForest nodes
  pub right : All (IsRight rects) nodes
  pub within : All (λ node. IsWithin node.bounds bounds) nodes
  pub named : numbers_of nodes ≡ numbers

-- nodes of the rectangles with these numbers, each of them once
pub record AreNodesOf (rects : List RectModel) (numbers : List ℕ) (nodes : List Node) : Type 0 where
  pub forest : IsForest nodes
  pub right : All (IsRight rects) nodes
  pub once : IsPermutation numbers (numbers_of nodes)
