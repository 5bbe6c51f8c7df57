-- What is kept of slots, while shapes are added one by one.
use Rattle.std.specs.Prelude.{◌≡◌, ◌↔◌, ◌⊎◌, ℕ, ℤ, Bool, IsTrue, ◌+◌, ◌<◌, ◌≤◌, ◌<ℤ◌, List, ◌++◌, ◌∷◌, [], Some, Option, MatchOption, length, slice_get}
use Rattle.leg_rules.specs.declared.side.Side.TheVariants.{East, North}
use Rattle.leg_rules.specs.declared.owner.Owner.{Owner}
use Rattle.leg_rules.specs.declared.owner.Owner.TheVariants.{Net}
use Rattle.leg_rules.specs.declared.shape.Shape.{Shape}
use Rattle.leg_rules.specs.Metal.Flat.{FlatModel}
use Rattle.leg_wire_spacing.specs.declared.access.Access.{Access}
use Rattle.leg_wire_spacing.specs.declared.access.Access.TheVariants.{Free, Only, Blocked}
use Rattle.leg_wire_spacing.specs.Access.{Admits}
use Rattle.leg_route_grid.specs.declared.layers.RoutingLayer.{RoutingLayer}
use Rattle.leg_route_access.specs.declared.slot_access.SlotAccess.{SlotAccess}
use Rattle.leg_route_grid.specs.Steps.Grid.{GridModel, IsSlot}
use Rattle.leg_route_grid.specs.Steps.NodeNumbers.{IsNeighbourAt}
use Rattle.leg_route_access.specs.Steps.AccessTable.{IsSlotAccess}
use Rattle.leg_route_access.specs.Steps.Reaches.{one_if}

-- the third admits what the first two both admit
abbrev pub IsBoth : Access → Access → Access → Type 0
IsBoth a b both = (net : ℕ) → Admits both net ↔ (Admits a net × Admits b net)

-- metal of this owner takes away none of the nets that are admitted
abbrev pub LosesNothing : Access → Owner → Type 0
LosesNothing Free owner = ⊥
LosesNothing (Only net) owner = owner ≡ Net net
LosesNothing Blocked owner = Unit {0}

-- nor does it of what is kept of a slot: of its node and the step along its layer, if metal on that layer is spoken of, and of the step up
pub record AreSettled (slot : SlotAccess) (owner : Owner) (on_layer : Bool) : Type 0 where
  pub node : IsTrue on_layer → LosesNothing slot.node owner
  pub along : IsTrue on_layer → LosesNothing slot.along owner
  pub above : LosesNothing slot.above owner

-- the slot of the number m lies to the east or to the north of that of n
abbrev pub IsNextAlong : GridModel → ℕ → ℕ → Type 0
IsNextAlong grid n m = IsNeighbourAt grid East n m ⊎ IsNeighbourAt grid North n m

-- which slot that is, or that there is none
abbrev pub IsNextIfAny : GridModel → ℕ → Option ℕ → Type 0
IsNextIfAny grid n next = MatchOption next ((m : ℕ) → ¬ IsNextAlong grid n m) (λ m. IsNextAlong grid n m)

-- the second flat has the shapes of the first, and this one after them
abbrev pub HasShape : Shape → FlatModel → FlatModel → Type 0
HasShape shape flat grown = grown.shapes ≡ flat.shapes ++ shape ∷ []

-- whatever was kept of the slot for a flat without the shape is kept, after this, for the flat with it
pub record IsAccessAfter (grid : GridModel) (shape : Shape) (n : ℕ) (before after : List SlotAccess) : Type 0 where
  pub told : (flat grown : FlatModel) (slot : SlotAccess) → HasShape shape flat grown → slice_get before n ≡ Some slot → IsSlotAccess grid flat n slot
      → (new : SlotAccess) → slice_get after n ≡ Some new → IsSlotAccess grid grown n new

-- after this the slots of which P holds are kept with the shape, and all others are as before
pub record AreAccessAfter (grid : GridModel) (shape : Shape) (P : ℕ → Type 0) (before after : List SlotAccess) : Type 0 where
  pub count : length after ≡ length before
  pub told : (n : ℕ) → P n → IsAccessAfter grid shape n before after
  pub others : (n : ℕ) → ¬ P n → slice_get after n ≡ slice_get before n

-- the places of the values from the first one not below low, or from the last one below it if `back` is set, to the last one not above high
pub record ArePlacesNear (values : List ℤ) (back : Bool) (low high : ℤ) (first end : ℕ) : Type 0 where
  pub within : end ≤ length values
  pub before : (k m : ℕ) (z : ℤ) → k < first → m ≤ k + one_if back → slice_get values m ≡ Some z → z <ℤ low
  pub behind : (k : ℕ) (z : ℤ) → end ≤ k → slice_get values k ≡ Some z → high <ℤ z

-- n is the number of a slot of routing layer k
pub record IsSlotOnLayer (grid : GridModel) (k n : ℕ) : Type 0 where
  pub j : ℕ
  pub i : ℕ
  pub slot : IsSlot grid n k j i

-- where routing layer k is the layer of this number in the library, the mark is set
abbrev pub LiesOnIf : GridModel → ℕ → ℕ → Bool → Type 0
LiesOnIf grid k number set = (own : RoutingLayer) → slice_get grid.layers k ≡ Some own → own.number ≡ number → IsTrue set
