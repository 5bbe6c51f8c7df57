-- Slots of a grid by ranges of rows and columns.
use Rattle.std.specs.Prelude.{◌≡◌, ◌↔◌, ◌⊎◌, ℕ, ◌<◌, ◌≤◌, List, Some, slice_get, Contains, Option, MatchOption}
use Rattle.leg_route_grid.specs.declared.layers.RoutingLayer.{RoutingLayer}
use Rattle.leg_route_grid.specs.Steps.Grid.{GridModel, IsSlot}

-- routing layer k is the layer of this number in the library
pub record IsRoutingLayerAt (layers : List RoutingLayer) (number k : ℕ) : Type 0 where
  pub layer : RoutingLayer
  pub there : slice_get layers k ≡ Some layer
  pub is : layer.number ≡ number

-- which of the routing layers it is, or that it is none
abbrev pub IsLayerIfAny : List RoutingLayer → ℕ → Option ℕ → Type 0
IsLayerIfAny layers number found = MatchOption found ((k : ℕ) → ¬ IsRoutingLayerAt layers number k) (λ k. IsRoutingLayerAt layers number k)

-- n comes at one of the places from the first to before the end
pub record IsSlotAmong (At : ℕ → ℕ → Type 0) (first end n : ℕ) : Type 0 where
  pub k : ℕ
  pub from : first ≤ k
  pub below : k < end
  pub is : At k n

-- n is the number of a slot of these columns in a row
abbrev pub IsInRow : GridModel → ℕ → ℕ → ℕ × ℕ → ℕ → Type 0
IsInRow grid layer row columns n = IsSlotAmong (λ column m. IsSlot grid m layer row column) columns.0 columns.1 n

-- n is the number of a slot of these rows and columns
abbrev pub IsInRows : GridModel → ℕ → ℕ × ℕ → ℕ × ℕ → ℕ → Type 0
IsInRows grid layer rows columns n = IsSlotAmong (λ row m. IsInRow grid layer row columns m) rows.0 rows.1 n

-- the numbers have got those of which this holds, and no others
abbrev pub HaveGot : (ℕ → Type 0) → List ℕ → List ℕ → Type 0
HaveGot New before after = (n : ℕ) → Contains after n ↔ (Contains before n ⊎ New n)

-- of the numbers some have been dropped of which this holds, and no others
pub record HaveDropped (P : ℕ → Type 0) (before after : List ℕ) : Type 0 where
  pub old : (n : ℕ) → Contains after n → Contains before n
  pub kept : (n : ℕ) → Contains before n → Contains after n ⊎ P n
