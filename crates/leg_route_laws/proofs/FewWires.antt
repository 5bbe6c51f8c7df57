-- A design has at least as many shapes as wires, so that a finished design keeps the limit of wires.
use Rattle.std.proofs.Common.{◌≡◌, ◌+◌, ◌<◌, ◌≤◌, ◌↔◌, ◌&&◌, ℕ, suc, Bool, true, false, not, IsTrue, List, [], ◌∷◌, ◌++◌, length, All, Option, None, Some, ap, ◌∙◌, subst, arith}
use Rattle.std.proofs.lemmas.List.{length-append, length-map}
use Rattle.std.proofs.lemmas.List.Elements.{All-cons, All-append, All-head, All-tail, All-weaker, All-contains}
use Rattle.leg_lemmas.proofs.Places.{contains_at}
use Rattle.leg_lib_records.specs.declared.joins.LayerUse.{LayerUse}
use Rattle.leg_lib_records.specs.declared.joins.ViaPart.{ViaPart}
use Rattle.leg_lib_records.specs.declared.records.Shape as cells
use Rattle.leg_lib_records.specs.Joins.{is_wiring_word, join_layers}
use Rattle.leg_lib_records.specs.JoinLaw.{Joins}
use Rattle.leg_lib_records.specs.GoodVia.{uses_of, parts_of, is_good_via}
use Rattle.leg_lib_records.specs.References.{IsViaOf}
use Rattle.leg_lib_records.specs.Records.{LibraryModel, ViaModel}
use Rattle.leg_lib_records.specs.Sound.{IsSound}
use Rattle.leg_design_records.specs.declared.records.Wire.{Wire}
use Rattle.leg_design_records.specs.declared.records.Wire.TheVariants.{Segment, ViaAt, Patch}
use Rattle.leg_design_records.specs.MoreWires.{each_with, with_more_wires}
use Rattle.leg_design_records.specs.Records.{DesignModel, NetModel, wire_count}
use Rattle.leg_design_records.specs.WellFormed.{IsWellFormed}
use Rattle.leg_design_records.specs.WellFormedParts.{AreVias, IsDesignVia}
use Rattle.leg_design_records.specs.WellFormedNets.{IsWire, IsNet}
use Rattle.leg_rules.specs.declared.owner.Owner.TheVariants.{Net}
use Rattle.leg_rules.specs.Metal.Nets.{terminals_of, number_of_special, regular_entry, entry_wires}
use Rattle.leg_rules.specs.Metal.Metal.{Belonging, belonging, wire_outlines, via_outlines, wires_metal, nets_metal, special_metal, specials_metal, metal_parts, metal_of}
use Rattle.leg_flat.proofs.Parts.{whole_length}
use Rattle.leg_route_laws.specs.FinishedDesign.{finished}

abbrev pub GoodViasJoin : Type 0
GoodViasJoin =
    (layers : List LayerUse) (parts : List ViaPart) → IsTrue (join_layers layers parts) ↔ ((low : ℕ) × (cut : ℕ) × (high : ℕ) × Joins layers parts low cut high)

-- a good via has shapes
second_true : (a b : Bool) → IsTrue (a && b) → IsTrue b
second_true true b is = is
second_true false b is = absurd (let e : ⊥ = cc in e)

via_some : GoodViasJoin → (library : LibraryModel) (name : List ℕ) (shapes : List cells.Shape) → IsTrue (is_good_via library name shapes) → 0 < length shapes
unfolding is_good_via
via_some join library name [] good =
    let joins =
    (join (uses_of library.layers) (parts_of [])).0 (second_true (not (is_wiring_word name)) (join_layers (uses_of library.layers) (parts_of [])) good) in
    absurd (omega (arith, joins.3.low_used.1))
via_some join library name (shape ∷ shapes) good = omega arith

abbrev IsMarked : LibraryModel → ViaModel → Type 0
IsMarked library via = via.good ≡ is_good_via library via.name via.shapes

abbrev HasMetal : DesignModel → Wire → Type 0
HasMetal design wire = 0 < length (wire_outlines design wire)

module _ (join : GoodViasJoin) (design : DesignModel) (sound : IsSound design.library) (vias : AreVias design.library design.vias) where
  all_marked : All (IsMarked design.library) (design.library.vias ++ design.vias)
  all_marked =
      All-append (IsMarked design.library) design.library.vias design.vias
      (All-weaker (IsViaOf design.library) (IsMarked design.library) (λ v is. is.good) design.library.vias sound.references.vias)
      (All-weaker (IsDesignVia design.library) (IsMarked design.library) (λ v is. is.good) design.vias vias.each)

  pub has_metal : (special : Bool) (wire : Wire) → IsWire design.library design.vias special wire → HasMetal design wire
  has_metal special (Segment layer from to width ext_from ext_to) is = omega arith
  has_metal special (ViaAt number place) is =
      let via = is.1.0 in
      let there = is.1.1 in
      let marked =
      All-contains (IsMarked design.library) (design.library.vias ++ design.vias) via all_marked
      (contains_at (design.library.vias ++ design.vias) number via there) in
      let some = via_some join design.library via.name via.shapes (subst IsTrue marked is.1.2) in
      let count : length (wire_outlines design (ViaAt number place)) ≡ length via.shapes =
      ap (λ (o : Option ViaModel). length (via_outlines o (ViaAt number place))) there ∙ length-map via.shapes _ in
      omega (arith, some, count)
  has_metal special (Patch layer place rect) is = omega arith

-- wires and their shapes
module _ (design : DesignModel) where
  wires_least : (n piece : ℕ) (wires : List Wire) → All (HasMetal design) wires → length wires ≤ length (wires_metal design n piece wires)
  unfolding wires_metal
  wires_least n piece [] all = omega arith
  wires_least n piece (wire ∷ wires) all =
      let belongs : Belonging = record { owner = Net n; component = None; piece = Some piece } in
      let some = All-head (HasMetal design) wire wires all in
      let rest = wires_least n (suc piece) wires (All-tail (HasMetal design) wire wires all) in
      let both = length-append (belonging belongs (wire_outlines design wire)) (wires_metal design n (suc piece) wires) in
      let first : length (belonging belongs (wire_outlines design wire)) ≡ length (wire_outlines design wire) = length-map (wire_outlines design wire) _ in
      omega (arith, some, rest, both, first)

  abbrev AllHave : NetModel → Type 0
  AllHave net = All (HasMetal design) net.wires

  nets_least : (n : ℕ) (nets : List NetModel) → All AllHave nets → wire_count nets ≤ length (nets_metal design n nets)
  unfolding nets_metal
  nets_least n [] all = omega arith
  nets_least n (net ∷ nets) all =
      let own = wires_least n (length (terminals_of design n)) net.wires (All-head AllHave net nets all) in
      let rest = nets_least (suc n) nets (All-tail AllHave net nets all) in
      let both = length-append (wires_metal design n (length (terminals_of design n)) net.wires) (nets_metal design (suc n) nets) in
      omega (arith, own, rest, both)

  specials_least : (k : ℕ) (nets : List NetModel) → All AllHave nets → wire_count nets ≤ length (specials_metal design k nets)
  unfolding specials_metal
  specials_least k [] all = omega arith
  specials_least k (net ∷ nets) all =
      let n = number_of_special design k net in
      let own = wires_least n (length (terminals_of design n) + length (entry_wires (regular_entry design n))) net.wires (All-head AllHave net nets all) in
      let rest = specials_least (suc k) nets (All-tail AllHave net nets all) in
      let both = length-append (special_metal design n net) (specials_metal design (suc k) nets) in
      omega (arith, own, rest, both)

  metal_least : All AllHave design.nets → All AllHave design.special → wire_count design.nets + wire_count design.special ≤ length (metal_of design)
  unfolding metal_of
  metal_least nets special =
      omega (arith, whole_length (metal_parts design), nets_least 0 design.nets nets, specials_least 0 design.special special)

all_with : (P : Wire → Type 0) (nets : List NetModel) (lists : List (List Wire)) → All (λ (net : NetModel). All P net.wires) nets → All (All P) lists
    → All (λ (net : NetModel). All P net.wires) (with_more_wires nets lists)
unfolding each_with
all_with P [] lists own more = own
all_with P (net ∷ nets) [] own more = own
all_with P (net ∷ nets) (wires ∷ lists) own more =
    All-cons (λ (net : NetModel). All P net.wires) (record net { wires = net.wires ++ wires }) (with_more_wires nets lists)
    (All-append P net.wires wires (All-head (λ (net : NetModel). All P net.wires) net nets own) (All-head (All P) wires lists more))
    (all_with P nets lists (All-tail (λ (net : NetModel). All P net.wires) net nets own) (All-tail (All P) wires lists more))

-- so a design with such wires more has at least as many shapes as wires
pub few_wires : GoodViasJoin → (design : DesignModel) (lists : List (List Wire)) → IsSound design.library → IsWellFormed design
    → All (All (IsWire design.library design.vias false)) lists
    → wire_count (with_more_wires design.nets lists) + wire_count design.special ≤ length (metal_of (finished design lists))
few_wires join design lists sound proper spelled =
    metal_least (finished design lists)
    (all_with (HasMetal (finished design lists)) design.nets lists (entries false design.nets proper.nets.nets.each)
    (All-weaker (All (IsWire design.library design.vias false)) (All (HasMetal (finished design lists))) (metal false) lists spelled))
    (entries true design.special proper.nets.special.each)
  where
    metal : (special : Bool) (wires : List Wire) → All (IsWire design.library design.vias special) wires → All (HasMetal (finished design lists)) wires
    metal special wires all =
        All-weaker (IsWire design.library design.vias special) (HasMetal (finished design lists))
        (has_metal join (finished design lists) sound proper.vias special) wires all

    entries : (special : Bool) (nets : List NetModel) → All (IsNet design special) nets
        → All (λ (net : NetModel). All (HasMetal (finished design lists)) net.wires) nets
    entries special nets all =
        All-weaker (IsNet design special) (λ (net : NetModel). All (HasMetal (finished design lists)) net.wires)
        (λ net is. metal special net.wires is.wires) nets all
