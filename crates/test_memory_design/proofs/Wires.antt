-- Wires of one design that another may get.
use Rattle.std.proofs.Common.{◌≡◌, ◌<◌, List, [], ◌∷◌, length, false, All, slice_index_or, arith}
use Rattle.std.proofs.lemmas.List.{length-append}
use Rattle.leg_design_records.specs.MoreWires.{each_with, with_more_wires}
use Rattle.leg_lib_records.specs.Records.{LibraryModel, ViaModel}
use Rattle.leg_design_records.specs.declared.records.Wire.{Wire}
use Rattle.leg_design_records.specs.Records.{DesignModel, NetModel, wire_count}
use Rattle.leg_design_records.specs.WellFormed.{IsWellFormed}
use Rattle.leg_design_records.specs.WellFormedNets.{IsWire}

-- the wires of a net are spelled under the design's library and vias
pub spelled_of : (design : DesignModel) → IsWellFormed design → (net : NetModel) → 0 < length design.nets → net ≡ slice_index_or design.nets 0 net
    → (library : LibraryModel) (vias : List ViaModel) → design.library ≡ library → design.vias ≡ vias → All (IsWire library vias false) net.wires
spelled_of design proper net some is library vias same_library same_vias =
    rw (same_library, same_vias, ← is) at (proper.nets.nets.each 0 net some).wires

-- the one net of a list has no wires, so the list has none
pub wire_count_one : (nets : List NetModel) (net : NetModel) → length nets ≡ 1 → net ≡ slice_index_or nets 0 net → length net.wires ≡ 0 → wire_count nets ≡ 0
wire_count_one [] net one is none = absurd (omega (arith, one))
wire_count_one (first ∷ []) net one is none = omega (arith, rw is at none)
wire_count_one (first ∷ second ∷ rest) net one is none = absurd (omega (arith, one))

-- the one net of a list, which has no wires, gets those of a list
pub wire_count_with : (nets : List NetModel) (net : NetModel) (wires : List Wire) → length nets ≡ 1 → net ≡ slice_index_or nets 0 net → length net.wires ≡ 0
    → wire_count (with_more_wires nets (wires ∷ [])) ≡ length wires
unfolding each_with
wire_count_with [] net wires one is none = absurd (omega (arith, one))
wire_count_with (first ∷ []) net wires one is none = omega (arith, length-append first.wires wires, rw is at none)
wire_count_with (first ∷ second ∷ rest) net wires one is none = absurd (omega (arith, one))
