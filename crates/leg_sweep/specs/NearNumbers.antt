-- The numbers that a search in an index has yet to give: what is seen of `Near`.
use Rattle.std.specs.Prelude.{ℕ, Bool, false, List, [], ◌∷◌, Option, None, Some, slice_get}
use Rattle.std.specs.List.{filter, flat_map}
use Rattle.leg_geom.specs.Plane.{RectModel}
use Rattle.leg_sweep.specs.declared.node.Content.{Content}
use Rattle.leg_sweep.specs.declared.node.Content.TheVariants.{Group, Rect}
use Rattle.leg_sweep.specs.declared.node.Node.{Node}
use Rattle.leg_sweep.specs.Counts.{near_along_both}

-- the rectangle with the number is there, and both of its gaps from this one are at most the reach
abbrev pub is_near : List RectModel → RectModel → ℕ → ℕ → Bool
is_near rects rect reach number = test (slice_get rects number) where
  test : Option RectModel → Bool
  test None = false
  test (Some other) = near_along_both reach rect other

-- the number of a node's rectangle, if it has one
abbrev pub number_in : Content → List ℕ
number_in (Group members) = []
number_in (Rect number) = number ∷ []

-- the numbers of the nodes' rectangles
abbrev pub numbers_of : List Node → List ℕ
numbers_of nodes = flat_map (λ node. number_in node.content) nodes

-- the numbers of those that are near
abbrev pub near_numbers : List RectModel → RectModel → ℕ → List Node → List ℕ
near_numbers rects rect reach nodes = filter (is_near rects rect reach) (numbers_of nodes)
