-- The metal of each part of a design as what its elements give, one after another.
use Rattle.std.proofs.Common.{◌≡◌, ℕ, suc, List, [], ◌∷◌, ◌++◌, length, map, Option, None, Some, slice_get, refl, ap, ◌∙◌}
use Rattle.std.proofs.lemmas.List.{map-append}
use Rattle.leg_geom.specs.Plane.{PointModel, RectModel}
use Rattle.leg_geom.specs.declared.place.Place.{Place}
use Rattle.leg_lib_records.specs.declared.records.Shape.{Shape}
use Rattle.leg_lib_records.specs.Measure.{ExtentModel}
use Rattle.leg_lib_records.specs.Records as library
use Rattle.leg_design_records.specs.declared.records.Component.{Component}
use Rattle.leg_design_records.specs.declared.records.Terminal.TheVariants.{Comp, Pin}
use Rattle.leg_design_records.specs.declared.records.Wire.{Wire}
use Rattle.leg_design_records.specs.Records.{DesignModel, PortModel, PinModel, BlockageModel, NetModel}
use Rattle.leg_rules.specs.declared.owner.Owner.TheVariants.{Net}
use Rattle.leg_rules.specs.Metal.Nets.{number_of_special, terminals_of}
use Rattle.leg_rules.specs.Metal.Outline.Outline.{Drawn, Shifted, Rectangle}
use Rattle.leg_rules.specs.Metal.Metal.{OnLayer, Belonging, Metal, belonging, drawn, of_terminal, pins_metal, component_metal, components_metal, port_outlines, ports_outlines, design_pins_metal, blockage_metal, blockages_metal, wire_outlines, wires_metal, nets_metal, special_metal, specials_metal}
use Rattle.leg_flat.proofs.MoreMetal.{walk}

-- each element gives one thing
pub walk_map : {X Y Z : Type 0} (g : Y → Z) (h : X → Y) (k : ℕ) (xs : List X) → map g (map h xs) ≡ walk (λ i x. g (h x) ∷ []) k xs
walk_map g h k [] = refl
walk_map g h k (x ∷ xs) = ap (λ z. g (h x) ∷ z) (walk_map g h (suc k) xs)

abbrev pub drawn_metal : Place → ExtentModel → Belonging → ℕ → Shape → List Metal
drawn_metal place size belongs k s =
    record { metal = record { layer = s.layer; outline = Drawn place size s.rect }; belongs = belongs } ∷ []

pub drawn_walk : (place : Place) (size : ExtentModel) (belongs : Belonging) (shapes : List Shape)
    → belonging belongs (drawn place size shapes) ≡ walk (drawn_metal place size belongs) 0 shapes
drawn_walk place size belongs shapes = walk_map _ _ 0 shapes

abbrev pub shifted_metal : PointModel → Belonging → ℕ → Shape → List Metal
shifted_metal at belongs k s =
    record { metal = record { layer = s.layer; outline = Shifted at s.rect }; belongs = belongs } ∷ []

pub shifted_walk : (at : PointModel) (belongs : Belonging) (shapes : List Shape)
    → belonging belongs (map (λ s. record { layer = s.layer; outline = Shifted at s.rect }) shapes) ≡ walk (shifted_metal at belongs) 0 shapes
shifted_walk at belongs shapes = walk_map _ _ 0 shapes

-- a rectangle as it is, on a layer
abbrev pub rect_on : ℕ → RectModel → OnLayer
rect_on layer rect = record { layer = layer; outline = Rectangle rect }

abbrev pub rect_metal : ℕ → Belonging → ℕ → RectModel → List Metal
rect_metal layer belongs k rect = record { metal = rect_on layer rect; belongs = belongs } ∷ []

pub rects_walk : (layer : ℕ) (belongs : Belonging) (rects : List RectModel)
    → belonging belongs (map (rect_on layer) rects) ≡ walk (rect_metal layer belongs) 0 rects
rects_walk layer belongs rects = walk_map _ _ 0 rects

abbrev pub pin_metal : DesignModel → ℕ → Place → ExtentModel → ℕ → library.MasterPinModel → List Metal
pin_metal design c place size k pin = belonging (of_terminal design (Some c) (Comp c k)) (drawn place size pin.shapes)

pub pins_walk : (design : DesignModel) (c : ℕ) (place : Place) (size : ExtentModel) (k : ℕ) (pins : List library.MasterPinModel)
    → pins_metal design c place size k pins ≡ walk (pin_metal design c place size) k pins
unfolding pins_metal
pins_walk design c place size k [] = refl
pins_walk design c place size k (pin ∷ pins) =
    ap (λ z. pin_metal design c place size k pin ++ z) (pins_walk design c place size (suc k) pins)

pub no_place : (design : DesignModel) (c : ℕ) (place : Option Place) (master : Option library.MasterModel) → place ≡ None
    → component_metal design c place master ≡ []
no_place design c None None is = refl
no_place design c None (Some m) is = refl
no_place design c (Some p) master is = absurd (let e : ⊥ = cc in e)

pub no_master : (design : DesignModel) (c : ℕ) (place : Option Place) (master : Option library.MasterModel) → master ≡ None
    → component_metal design c place master ≡ []
no_master design c None None is = refl
no_master design c (Some p) None is = refl
no_master design c place (Some m) is = absurd (let e : ⊥ = cc in e)

abbrev pub one_component : DesignModel → ℕ → Component → List Metal
one_component design c component = component_metal design c component.place (slice_get design.library.masters component.master)

pub components_walk : (design : DesignModel) (c : ℕ) (components : List Component)
    → components_metal design c components ≡ walk (one_component design) c components
unfolding components_metal
components_walk design c [] = refl
components_walk design c (component ∷ components) =
    ap (λ z. one_component design c component ++ z) (components_walk design (suc c) components)

abbrev pub port_metal : Belonging → ℕ → PortModel → List Metal
port_metal belongs k port = belonging belongs (port_outlines port.place port.shapes)

pub ports_walk : (belongs : Belonging) (k : ℕ) (ports : List PortModel) → belonging belongs (ports_outlines ports) ≡ walk (port_metal belongs) k ports
unfolding ports_outlines
ports_walk belongs k [] = refl
ports_walk belongs k (port ∷ ports) =
    map-append (λ (m : OnLayer). record { metal = m; belongs = belongs }) (port_outlines port.place port.shapes) (ports_outlines ports)
    ∙ ap (λ z. port_metal belongs k port ++ z) (ports_walk belongs (suc k) ports)

abbrev pub design_pin_metal : DesignModel → ℕ → PinModel → List Metal
design_pin_metal design p pin = belonging (of_terminal design None (Pin p)) (ports_outlines pin.ports)

pub design_pins_walk : (design : DesignModel) (p : ℕ) (pins : List PinModel) → design_pins_metal design p pins ≡ walk (design_pin_metal design) p pins
unfolding design_pins_metal
design_pins_walk design p [] = refl
design_pins_walk design p (pin ∷ pins) =
    ap (λ z. design_pin_metal design p pin ++ z) (design_pins_walk design (suc p) pins)

abbrev pub one_blockage : ℕ → BlockageModel → List Metal
one_blockage k blockage = blockage_metal k blockage.layer blockage.rects

pub blockages_walk : (k : ℕ) (blockages : List BlockageModel) → blockages_metal k blockages ≡ walk one_blockage k blockages
unfolding blockages_metal
blockages_walk k [] = refl
blockages_walk k (blockage ∷ blockages) = ap (λ z. one_blockage k blockage ++ z) (blockages_walk (suc k) blockages)

abbrev pub wire_metal : DesignModel → ℕ → ℕ → Wire → List Metal
wire_metal design n piece wire = belonging (record { owner = Net n; component = None; piece = Some piece }) (wire_outlines design wire)

pub wires_walk : (design : DesignModel) (n piece : ℕ) (wires : List Wire) → wires_metal design n piece wires ≡ walk (wire_metal design n) piece wires
unfolding wires_metal
wires_walk design n piece [] = refl
wires_walk design n piece (wire ∷ wires) =
    ap (λ z. wire_metal design n piece wire ++ z) (wires_walk design n (suc piece) wires)

abbrev pub net_metal : DesignModel → ℕ → NetModel → List Metal
net_metal design n net = wires_metal design n (length (terminals_of design n)) net.wires

pub nets_walk : (design : DesignModel) (n : ℕ) (nets : List NetModel) → nets_metal design n nets ≡ walk (net_metal design) n nets
unfolding nets_metal
nets_walk design n [] = refl
nets_walk design n (net ∷ nets) = ap (λ z. net_metal design n net ++ z) (nets_walk design (suc n) nets)

abbrev pub one_special : DesignModel → ℕ → NetModel → List Metal
one_special design k net = special_metal design (number_of_special design k net) net

pub specials_walk : (design : DesignModel) (k : ℕ) (nets : List NetModel) → specials_metal design k nets ≡ walk (one_special design) k nets
unfolding specials_metal
specials_walk design k [] = refl
specials_walk design k (net ∷ nets) = ap (λ z. one_special design k net ++ z) (specials_walk design (suc k) nets)

abbrev pub port_drawn : ℕ → PortModel → List OnLayer
port_drawn k port = port_outlines port.place port.shapes

pub ports_drawn_walk : (k : ℕ) (ports : List PortModel) → ports_outlines ports ≡ walk port_drawn k ports
unfolding ports_outlines
ports_drawn_walk k [] = refl
ports_drawn_walk k (port ∷ ports) = ap (λ z. port_drawn k port ++ z) (ports_drawn_walk (suc k) ports)
