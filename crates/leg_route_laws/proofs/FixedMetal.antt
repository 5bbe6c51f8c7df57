-- The metal of components, of design pins and of blockages, which wires don't touch.
use Rattle.std.proofs.Common.{◌≡◌, ℕ, suc, ◌+◌, List, [], ◌∷◌, ◌++◌, ◌⊎◌, inl, inr, Contains, length, slice_get, Option, None, Some, refl, sym, ap, subst}
use Rattle.std.proofs.lemmas.List.Elements.{Contains-append_left, Contains-append_cases}
use Rattle.leg_lemmas.proofs.Places.{comes_from}
use Rattle.leg_lemmas.proofs.Contents.{Contains-nil}
use Rattle.leg_geom.specs.declared.place.Place.{Place}
use Rattle.leg_lib_records.specs.Measure.{ExtentModel}
use Rattle.leg_lib_records.specs.Records as library
use Rattle.leg_design_records.specs.declared.records.Component.{Component}
use Rattle.leg_design_records.specs.declared.records.Terminal.TheVariants.{Comp, Pin}
use Rattle.leg_design_records.specs.declared.records.Wire.{Wire}
use Rattle.leg_design_records.specs.Records.{DesignModel, PinModel, NetModel}
use Rattle.leg_rules.specs.declared.owner.Owner.TheVariants.{Net}
use Rattle.leg_rules.specs.Metal.Nets.{terminals_of, regular_entry, entry_wires, number_of_special}
use Rattle.leg_rules.specs.Metal.Metal.{OnLayer, Belonging, Metal, belonging, pins_metal, component_metal, components_metal, design_pins_metal, blockages_metal, wire_outlines, wires_metal, nets_metal, specials_metal, metal_of}
use Rattle.leg_flat.proofs.Parts.{whole, by_part, whole_append}
use Rattle.leg_route_laws.specs.FinishedDesign.{finished}
use Rattle.leg_route_laws.proofs.NetMetal.{IsNet}
use Rattle.leg_route_laws.proofs.SameNets.{same_belonging}

module _ (design : DesignModel) (lists : List (List Wire)) where
  abbrev done : DesignModel
  done = finished design lists

  same_pins : (c : ℕ) (place : Place) (size : ExtentModel) (k : ℕ) (pins : List library.MasterPinModel)
      → pins_metal done c place size k pins ≡ pins_metal design c place size k pins
  unfolding pins_metal
  same_pins c place size k [] = refl
  same_pins c place size k (pin ∷ pins) = rw (same_belonging design lists (Some c) (Comp c k), same_pins c place size (suc k) pins) refl

  same_component : (c : ℕ) (place : Option Place) (master : Option library.MasterModel)
      → component_metal done c place master ≡ component_metal design c place master
  same_component c (Some place) (Some master) = rw (same_pins c place master.size 0 master.pins) refl
  same_component c (Some place) None = refl
  same_component c None (Some master) = refl
  same_component c None None = refl

  same_components : (c : ℕ) (components : List Component) → components_metal done c components ≡ components_metal design c components
  unfolding components_metal
  same_components c [] = refl
  same_components c (component ∷ components) =
      rw (same_component c component.place (slice_get design.library.masters component.master), same_components (suc c) components) refl

  same_design_pins : (p : ℕ) (pins : List PinModel) → design_pins_metal done p pins ≡ design_pins_metal design p pins
  unfolding design_pins_metal
  same_design_pins p [] = refl
  same_design_pins p (pin ∷ pins) = rw (same_belonging design lists None (Pin p), same_design_pins (suc p) pins) refl

-- the parts of the metal that wires don't touch: components, design pins and blockages; and the others
abbrev fixed_parts : DesignModel → List (List Metal)
fixed_parts design =
    components_metal design 0 design.components
    ∷ design_pins_metal design 0 design.pins
    ∷ blockages_metal 0 design.blockages
    ∷ []

abbrev pub wire_parts : DesignModel → List (List Metal)
wire_parts design =
    nets_metal design 0 design.nets
    ∷ specials_metal design 0 design.special
    ∷ []

abbrev pub fixed_metal : DesignModel → List Metal
fixed_metal design = whole (fixed_parts design)

pub fixed_and_wires : (design : DesignModel) → metal_of design ≡ fixed_metal design ++ whole (wire_parts design)
unfolding metal_of
fixed_and_wires design = whole_append (fixed_parts design) (wire_parts design)

abbrev pub IsFixed : DesignModel → Metal → Type 0
IsFixed design m = Contains (fixed_metal design) m

pub same_fixed : (design : DesignModel) (lists : List (List Wire)) → fixed_metal (finished design lists) ≡ fixed_metal design
same_fixed design lists = rw (same_components design lists 0 design.components, same_design_pins design lists 0 design.pins) refl

pub fixed_there : (design : DesignModel) (lists : List (List Wire)) (m : Metal) → IsFixed design m → IsFixed (finished design lists) m
fixed_there design lists m fixed = subst (λ metal. Contains metal m) (sym (same_fixed design lists)) fixed

pub fixed_back : (design : DesignModel) (lists : List (List Wire)) (m : Metal) → IsFixed (finished design lists) m → IsFixed design m
fixed_back design lists m fixed = subst (λ metal. Contains metal m) (same_fixed design lists) fixed

module _ (design : DesignModel) (m : Metal) where
  wires_own : (n piece : ℕ) (wires : List Wire) → Contains (wires_metal design n piece wires) m → IsNet m.belongs.owner
  unfolding wires_metal
  wires_own n piece [] there = absurd (Contains-nil m there)
  wires_own n piece (wire ∷ wires) there = by (wires_own n (suc piece) wires) (Contains-append_cases one (wires_metal design n (suc piece) wires) m there) where
    belongs : Belonging
    belongs = record { owner = Net n; component = None; piece = Some piece }

    one : List Metal
    one = belonging belongs (wire_outlines design wire)

    by : (Contains (wires_metal design n (suc piece) wires) m → IsNet m.belongs.owner) → Contains one m ⊎ Contains (wires_metal design n (suc piece) wires) m
        → IsNet m.belongs.owner
    by rest (inl here) =
        let from = comes_from (λ (o : OnLayer). record { metal = o; belongs = belongs }) (wire_outlines design wire) m here in
        (n, sym (ap (λ (x : Metal). x.belongs.owner) from.2))
    by rest (inr later) = rest later

  nets_own : (n : ℕ) (nets : List NetModel) → Contains (nets_metal design n nets) m → IsNet m.belongs.owner
  unfolding nets_metal
  nets_own n [] there = absurd (Contains-nil m there)
  nets_own n (net ∷ nets) there =
      elim (Contains-append_cases (wires_metal design n (length (terminals_of design n)) net.wires) (nets_metal design (suc n) nets) m there) [
        | inl here ↦ wires_own n (length (terminals_of design n)) net.wires here
        | inr later ↦ nets_own (suc n) nets later
      ]

  specials_own : (k : ℕ) (nets : List NetModel) → Contains (specials_metal design k nets) m → IsNet m.belongs.owner
  unfolding specials_metal
  specials_own k [] there = absurd (Contains-nil m there)
  specials_own k (net ∷ nets) there = by (specials_own (suc k) nets) (number_of_special design k net) there where
    by : (Contains (specials_metal design (suc k) nets) m → IsNet m.belongs.owner) → (n : ℕ)
        → Contains (wires_metal design n (length (terminals_of design n) + length (entry_wires (regular_entry design n))) net.wires ++ specials_metal design
        (suc k) nets) m → IsNet m.belongs.owner
    by rest n there =
        elim (Contains-append_cases (wires_metal design n (length (terminals_of design n) + length (entry_wires (regular_entry design n))) net.wires)
        (specials_metal design (suc k) nets) m there) [
          | inl here ↦ wires_own n (length (terminals_of design n) + length (entry_wires (regular_entry design n))) net.wires here
          | inr later ↦ rest later
        ]

  -- metal is of a component, a design pin or a blockage, or of a net
  pub fixed_or_wire : Contains (metal_of design) m → IsFixed design m ⊎ IsNet m.belongs.owner
  fixed_or_wire there =
      elim (Contains-append_cases (fixed_metal design) (whole (wire_parts design)) m (subst (λ metal. Contains metal m) (fixed_and_wires design) there)) [
        | inl fixed ↦ inl fixed
        | inr wire ↦ inr (by_part (IsNet m.belongs.owner) (wire_parts design) m (nets_own 0 design.nets, (specials_own 0 design.special, tt)) wire)
      ]

  pub from_fixed : IsFixed design m → Contains (metal_of design) m
  from_fixed fixed =
      subst (λ metal. Contains metal m) (sym (fixed_and_wires design)) (Contains-append_left (fixed_metal design) (whole (wire_parts design)) m fixed)
