-- The numbers of the items on each layer, and the nodes of their rectangles.
use Rattle.std.specs.Prelude.{◌≡◌, ℕ, ◌<◌, ◌==◌, Bool, List, [], length, map, slice_index, slice_index_or}
use Rattle.std.specs.List.{filter, range_with_len}
use Rattle.leg_geom.specs.Plane.{RectModel}
use Rattle.leg_sweep.specs.declared.node.Node.{Node}
use Rattle.leg_sweep.specs.Steps.Nodes.{AreNodesOf}

-- the item with the number is on the layer
abbrev pub is_on : List ℕ → ℕ → ℕ → Bool
is_on layer_of layer number = slice_index layer_of number == layer

-- the numbers below the bound of those on the layer
abbrev pub numbers_on : List ℕ → ℕ → ℕ → List ℕ
numbers_on layer_of layer bound = filter (is_on layer_of layer) (range_with_len 0 bound)

-- for each layer the keys with the numbers of the items on it
pub record AreKeysByLayer (layer_of : List ℕ) (layers bound : ℕ) (keys : List (List (ℕ × ℕ))) : Type 0 where
  pub many : length keys ≡ layers
  pub each : (layer : ℕ) → layer < layers → map (λ key. key.1) (slice_index_or keys layer []) ≡ numbers_on layer_of layer bound

-- for each layer the nodes of the rectangles on it
pub record AreNodesByLayer (rects : List RectModel) (layer_of : List ℕ) (layers : ℕ) (nodes : List (List Node)) : Type 0 where
  pub many : length nodes ≡ layers
  pub each : (layer : ℕ) → layer < layers → AreNodesOf rects (numbers_on layer_of layer (length rects)) (slice_index_or nodes layer [])
