-- The wires that `finish` adds (lefdef's own rules).
use Rattle.std.specs.Prelude.{◌≡◌, ◌≢◌, ℕ, ◌+◌, ◌-ℤ◌, List, [], ◌∷◌, ◌++◌, length, drop, Some, sum_by, count_by, unsigned_abs, Bool, true, false, slice_get}
use Rattle.leg_design_records.specs.declared.records.Wire.{Wire}
use Rattle.leg_design_records.specs.declared.records.Wire.TheVariants.{Segment, ViaAt, Patch}
use Rattle.leg_design_records.specs.Records.{NetModel, DesignModel}
use Rattle.leg_rules.specs.Metal.Flat.{FlatModel, IsFlatOf}
use Rattle.leg_rules.specs.Joins.Violations.{IsOpenNet}
use Rattle.leg_rules.specs.declared.node.Node.{Node}
use Rattle.leg_rules.specs.Route.GridWalk.{IsGridWalk}
use Rattle.leg_rules.specs.Route.Spelling.{AreWiresOf}

-- an entry got wires only if its net was open
abbrev pub AddsToOpenNets : DesignModel → DesignModel → Type 0
AddsToOpenNets before after =
    (flat : FlatModel) → IsFlatOf before flat → (n : ℕ) → slice_get after.nets n ≢ slice_get before.nets n → IsOpenNet before flat n

-- the wires of walks over the grid, one walk after another, each walk spelled as a routing run spells its walks
pub data AreWiresOfWalks (design : DesignModel) : List Wire → Type 0 where
  none : AreWiresOfWalks design []
  walk : {nodes : List Node} {wires more : List Wire} → IsGridWalk design nodes → AreWiresOf design nodes wires
      → AreWiresOfWalks design more → AreWiresOfWalks design (wires ++ more)

-- what each entry of NETS got after its own wires are such wires
abbrev pub AddsWalks : DesignModel → DesignModel → Type 0
AddsWalks before after =
    (n : ℕ) (net with : NetModel) → slice_get before.nets n ≡ Some net → slice_get after.nets n ≡ Some with
    → AreWiresOfWalks before (drop (length net.wires) with.wires)

-- the wires that the entries of the second list have beyond those of the first one, entry by entry
abbrev pub added_wires : List NetModel → List NetModel → List Wire
added_wires [] after = []
added_wires (net ∷ nets) [] = []
added_wires (net ∷ nets) (with ∷ rest) = drop (length net.wires) with.wires ++ added_wires nets rest

-- how long a wire is from its first point to its last, in database units
abbrev pub wire_length : Wire → ℕ
wire_length (Segment layer from to width from_ext to_ext) = unsigned_abs (to.x -ℤ from.x) + unsigned_abs (to.y -ℤ from.y)
wire_length (ViaAt via at) = 0
wire_length (Patch layer at rect) = 0

abbrev pub is_via : Wire → Bool
is_via (Segment layer from to width from_ext to_ext) = false
is_via (ViaAt via at) = true
is_via (Patch layer at rect) = false

-- The length of the added wires together is this, and so many of them are vias.
pub record HaveTotals (before after : DesignModel) (length vias : ℕ) : Type 0 where
  pub length_is : length ≡ sum_by wire_length (added_wires before.nets after.nets)
  pub vias_are : vias ≡ count_by is_via (added_wires before.nets after.nets)
