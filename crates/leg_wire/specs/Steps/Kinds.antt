-- Kinds of metal: one of each kind, and for each shape the number of its kind.
use Rattle.std.specs.Prelude.{◌≡◌, ◌≢◌, ◌↔◌, ◌≤◌, ◌<◌, ℕ, List, length, map, Some, slice_get, get_or, All, AllPairs, Contains, []}
use Rattle.std.specs.List.{flat_map}
use Rattle.leg_sweep.specs.Steps.Sweep.{ordered}
use Rattle.leg_rules.specs.declared.shape.Shape.{Shape}
use Rattle.leg_wire.specs.declared.piece_shape.PieceShape.{PieceShape}

-- the same metal of one owner and one component: whatever is compared with the one shape is compared with the other
pub record AreAlike (a b : Shape) : Type 0 where
  pub layer : a.layer ≡ b.layer
  pub rect : a.rect ≡ b.rect
  pub owner : a.owner ≡ b.owner
  pub component : a.component ≡ b.component

-- the same metal, of whatever pieces
pub record AreSameMetal (a b : PieceShape) : Type 0 where
  pub layer : a.layer ≡ b.layer
  pub rect : a.rect ≡ b.rect

module _ {Metal : Type 0} (Alike : Metal → Metal → Type 0) where
  -- the kind with this number is that of the metal
  pub record IsOfKind (kinds : List Metal) (number : ℕ) (metal : Metal) : Type 0 where
    pub kind : Metal
    pub at : slice_get kinds number ≡ Some kind
    pub alike : Alike metal kind

  -- one of each kind, and the numbers of the kinds of all shapes
  pub record AreKinds (metal kinds : List Metal) (numbers : List ℕ) : Type 0 where
    pub count : length numbers ≡ length metal
    pub few : length kinds ≤ length metal
    pub within : All (λ number. number < length kinds) numbers
    pub among : All (Contains metal) kinds
    pub each : (k : ℕ) (one : Metal) → slice_get metal k ≡ Some one → IsOfKind kinds (get_or numbers k 0) one

-- for each kind the numbers of its shapes, each once
pub record AreMembers (numbers : List ℕ) (count : ℕ) (members : List (List ℕ)) : Type 0 where
  pub many : length members ≡ count
  pub each : (kind k : ℕ) → kind < count → Contains (get_or members kind []) k ↔ slice_get numbers k ≡ Some kind
  pub once : (kind : ℕ) → AllPairs (λ j k. j ≢ k) (get_or members kind [])

-- each of these numbers with each of those, the lower one first
abbrev pub pairs_between : List ℕ → List ℕ → List (ℕ × ℕ)
pairs_between firsts seconds = flat_map (λ i. map (ordered i) seconds) firsts

-- for pairs of kinds the pairs of their shapes
abbrev pub pairs_among : List (List ℕ) → List (ℕ × ℕ) → List (ℕ × ℕ)
pairs_among members kinds = flat_map (λ p. pairs_between (get_or members p.0 []) (get_or members p.1 [])) kinds
