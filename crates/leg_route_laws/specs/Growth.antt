-- A flat that grows by wires, one after another, and what it then has.
use Rattle.std.specs.Prelude.{◌≡◌, ◌==◌, ◌+◌, ℕ, List, [], ◌∷◌, ◌++◌, length, map, if◌then◌else◌, Some, slice_get, Contains}
use Rattle.leg_design_records.specs.declared.records.Terminal.{Terminal}
use Rattle.leg_design_records.specs.declared.records.Wire.{Wire}
use Rattle.leg_design_records.specs.Records.{DesignModel}
use Rattle.leg_rules.specs.declared.shape.Shape.{Shape}
use Rattle.leg_rules.specs.Metal.Metal.{Metal, wire_outlines}
use Rattle.leg_rules.specs.Metal.Flat.{FlatModel, IsShapeOf, pieces_with}
use Rattle.leg_rules.specs.Metal.MoreWires.{wire_metal, HasOneMoreWire}

-- a wire, and the number of the net that it is added to
pub record AddedWire : Type 0 where
  pub net : ℕ
  pub wire : Wire

-- The second flat is the first with these wires, which are added one after another, in their order.
abbrev pub Grows : DesignModel → List AddedWire → FlatModel → FlatModel → Type 0
Grows design [] before after = after ≡ before
Grows design (added ∷ more) before after =
    (between : FlatModel) × HasOneMoreWire design added.net added.wire before between × Grows design more between after

-- these wires, all of this net
abbrev pub of_net : ℕ → List Wire → List AddedWire
of_net net wires = map (λ wire. record { net = net; wire = wire }) wires

-- the wires of this net among the added ones, in their order
abbrev pub wires_added : ℕ → List AddedWire → List Wire
wires_added net [] = []
wires_added net (added ∷ more) =
    if added.net == net then added.wire ∷ wires_added net more else wires_added net more

-- how many shapes the added wires have together
abbrev pub shapes_added : DesignModel → List AddedWire → ℕ
shapes_added design [] = 0
shapes_added design (added ∷ more) = length (wire_outlines design added.wire) + shapes_added design more

-- the metal is one of the shapes of an added wire: number j of those of its net, and a piece after those that the net had
pub record IsMetalAdded (design : DesignModel) (added : List AddedWire) (before : FlatModel) (metal : Metal) : Type 0 where
  pub net : ℕ
  pub j : ℕ
  pub wire : Wire
  pub there : slice_get (wires_added net added) j ≡ Some wire
  pub terminals : List Terminal
  pub wires : ℕ
  pub had : slice_get before.pieces net ≡ Some (pieces_with terminals wires)
  pub of_wire : Contains (wire_metal design net (length terminals + (wires + j)) wire) metal

-- What a flat has that grew by these wires: the shapes from before and then those of the wires, and for each net its pieces
-- and then its added wires.
pub record HasGrown (design : DesignModel) (added : List AddedWire) (before after : FlatModel) : Type 0 where
  pub more : List Shape
  pub shapes : after.shapes ≡ before.shapes ++ more
  pub count : length more ≡ shapes_added design added
  pub each : (shape : Shape) → Contains more shape → (metal : Metal) × IsMetalAdded design added before metal × IsShapeOf metal shape
  pub all : (metal : Metal) → IsMetalAdded design added before metal → (shape : Shape) × Contains more shape × IsShapeOf metal shape
  pub nets : length after.pieces ≡ length before.pieces
  pub pieces : (net : ℕ) (terminals : List Terminal) (wires : ℕ) → slice_get before.pieces net ≡ Some (pieces_with terminals wires)
      → slice_get after.pieces net ≡ Some (pieces_with terminals (wires + length (wires_added net added)))
  pub others : (net : ℕ) → wires_added net added ≡ [] → slice_get after.pieces net ≡ slice_get before.pieces net
