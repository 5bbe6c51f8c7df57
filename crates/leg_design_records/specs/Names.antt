-- How the parts of a design are named. A number that nothing has names nothing.
use Rattle.std.specs.Prelude.{ℕ, Bool, true, false, List, [], ◌++◌, Option, None, Some, codes, slice_get}
use Rattle.leg_lex.specs.Words.{◌>>=◌}
use Rattle.leg_lib_records.specs.Records.{ViaModel, MasterPinModel}
use Rattle.leg_design_records.specs.declared.records.Component.{Component}
use Rattle.leg_design_records.specs.declared.records.Terminal.{Terminal}
use Rattle.leg_design_records.specs.declared.records.Terminal.TheVariants.{Comp, Pin}
use Rattle.leg_design_records.specs.Records.{DesignModel, PinModel, NetModel}

-- what is named so, if there is something
abbrev pub name_by : {X : Type 0} → (X → List ℕ) → Option X → List ℕ
name_by name None = []
name_by name (Some x) = name x

-- the via of this number: those of the library count first, and then those of the design
abbrev pub design_via : DesignModel → ℕ → Option ViaModel
design_via design via = slice_get (design.library.vias ++ design.vias) via

abbrev pub via_name : DesignModel → ℕ → List ℕ
via_name design via = name_by (λ (v : ViaModel). v.name) (design_via design via)

abbrev pub component_name : DesignModel → ℕ → List ℕ
component_name design c = name_by (λ (component : Component). component.name) (slice_get design.components c)

-- the pin of a component's macro
abbrev pub master_pin : DesignModel → ℕ → ℕ → Option MasterPinModel
master_pin design c k = do
  component ← slice_get design.components c
  master ← slice_get design.library.masters component.master
  slice_get master.pins k

abbrev pub component_pin_name : DesignModel → ℕ → ℕ → List ℕ
component_pin_name design c k = name_by (λ (pin : MasterPinModel). pin.name) (master_pin design c k)

abbrev pub design_pin_name : DesignModel → ℕ → List ℕ
design_pin_name design p = name_by (λ (pin : PinModel). pin.name) (slice_get design.pins p)

-- the two words of a terminal: a component and its pin, or PIN and a pin of the design (no component is named PIN)
abbrev pub terminal_names : DesignModel → Terminal → List ℕ × List ℕ
terminal_names design (Comp c k) = (component_name design c, component_pin_name design c k)
terminal_names design (Pin p) = (codes "PIN", design_pin_name design p)

-- the entries of NETS count first, then those of SPECIALNETS
abbrev pub net_name : DesignModel → ℕ → List ℕ
net_name design n = name_by (λ (net : NetModel). net.name) (slice_get (design.nets ++ design.special) n)

-- the section that has these nets (LEF/DEF 5.8, "Nets", "Special Nets")
abbrev pub net_section : Bool → List ℕ
net_section false = codes "NETS"
net_section true = codes "SPECIALNETS"
