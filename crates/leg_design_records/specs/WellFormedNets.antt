-- What holds of the nets of a design that a DEF denotes under a library (lefdef's own rules, after LEF/DEF 5.8, "Nets", "Special
-- Nets").
use Rattle.std.specs.Prelude.{◌≡◌, ◌≢◌, ℕ, ℤ, pos, ◌+◌, ◌<◌, ◌≤◌, ◌⊎◌, ◌≤ℤ◌, ◌<ℤ◌, Bool, true, false, List, ◌++◌, length, All, AllPairs, Contains, Option, None, Some, slice_get, codes, IsTrue}
use Rattle.leg_lex.specs.Words.{is_name, is_keyword}
use Rattle.leg_lex.specs.Number.{IsNumber}
use Rattle.leg_lex.specs.NameLookup.{place_of, AreApart}
use Rattle.leg_geom.specs.Plane.{PointModel}
use Rattle.leg_lib_records.specs.Records.{LibraryModel, ViaModel, MasterModel}
use Rattle.leg_design_records.specs.declared.limits.TheConstants.{ENTRY_LIMIT, PART_LIMIT}
use Rattle.leg_design_records.specs.declared.records.Component.{Component}
use Rattle.leg_design_records.specs.declared.records.Terminal.{Terminal}
use Rattle.leg_design_records.specs.declared.records.Terminal.TheVariants.{Comp, Pin}
use Rattle.leg_design_records.specs.declared.records.Wire.{Wire}
use Rattle.leg_design_records.specs.declared.records.Wire.TheVariants.{Segment, ViaAt, Patch}
use Rattle.leg_design_records.specs.Layers.{width_of_layer, is_routing}
use Rattle.leg_design_records.specs.Wires.{is_straight, default_extension, is_even}
use Rattle.leg_design_records.specs.WellFormedParts.{IsPosition, IsArea, IsKept}
use Rattle.leg_design_records.specs.Records.{PinModel, NetModel, DesignModel, net_names, terminal_count, wire_count}

-- the terminal is a pin of a component of the design, or a pin of the design
abbrev pub IsTerminal : DesignModel → Terminal → Type 0
IsTerminal design (Comp c k) =
    (component : Component) × (slice_get design.components c ≡ Some component)
    × ((master : MasterModel) × (slice_get design.library.masters component.master ≡ Some master) × (k < length master.pins))
IsTerminal design (Pin p) = p < length design.pins

-- The width of a segment: that of the layer in NETS, and in SPECIALNETS an even number above 0.
abbrev pub IsWireWidth : LibraryModel → Bool → ℕ → ℤ → Type 0
IsWireWidth library false layer width = width_of_layer library layer ≡ Some width
IsWireWidth library true layer width = IsNumber width × (pos 0 <ℤ width) × IsTrue (is_even width)

-- what default_extension asks for: in SPECIALNETS that a width is written
abbrev pub written : Bool → Option ℤ
written false = None
written true = Some (pos 0)

-- An extension: one that a DEF may give, or the one that holds where none is given.
abbrev pub IsExtension : LibraryModel → Bool → ℕ → ℤ → Type 0
IsExtension library special layer extension =
    (IsNumber extension × (pos 0 ≤ℤ extension)) ⊎ (extension ≡ default_extension library (written special) layer)

-- a segment of a routing layer: horizontal or vertical, not of length zero, with a width and two extensions
pub record IsSegment (library : LibraryModel) (special : Bool) (layer : ℕ) (from to : PointModel) (width ext_from ext_to : ℤ) : Type 0 where
  pub routes : IsTrue (is_routing library layer)
  pub from_ : IsPosition from
  pub to_ : IsPosition to
  pub straight : IsTrue (is_straight from to)
  pub long : from ≢ to
  pub width_ : IsWireWidth library special layer width
  pub from_extension : IsExtension library special layer ext_from
  pub to_extension : IsExtension library special layer ext_to

-- a wire that DEF can spell, in NETS or in SPECIALNETS
abbrev pub IsWire : LibraryModel → List ViaModel → Bool → Wire → Type 0
IsWire library vias special (Segment layer from to width ext_from ext_to) =
    IsSegment library special layer from to width ext_from ext_to
IsWire library vias special (ViaAt number at) =
    IsPosition at × ((via : ViaModel) × (slice_get (library.vias ++ vias) number ≡ Some via) × IsTrue via.good)
IsWire library vias special (Patch layer at rect) =
    (special ≡ false) × IsTrue (is_routing library layer) × IsPosition at × IsArea rect

-- an entry: its name, its terminals, each listed once, and its wires
pub record IsNet (design : DesignModel) (special : Bool) (net : NetModel) : Type 0 where
  pub name : IsTrue (is_name net.name)
  pub no_must_join : is_keyword (codes "MUSTJOIN") net.name ≡ false
  pub usage : IsKept net.usage
  pub terminals : All (IsTerminal design) net.terminals
  pub once : AllPairs (λ t u. t ≢ u) net.terminals
  pub wires : All (IsWire design.library design.vias special) net.wires

-- the entries of a section; no two have one name
pub record AreNets (design : DesignModel) (special : Bool) (nets : List NetModel) : Type 0 where
  pub each : All (IsNet design special) nets
  pub apart : AreApart (net_names nets)

-- entries that list one terminal are of one name
abbrev pub AreInOneNet : List NetModel → Type 0
AreInOneNet nets =
    (a b : NetModel) (terminal : Terminal) → Contains nets a → Contains nets b
    → Contains a.terminals terminal → Contains b.terminals terminal → a.name ≡ b.name

-- the pin whose `+ NET` names a net is in some net
abbrev pub IsInSomeNet : List NetModel → ℕ → Option (List ℕ) → Type 0
IsInSomeNet nets p None = Unit {0}
IsInSomeNet nets p (Some name) =
    place_of name (net_names nets) ≢ None → (net : NetModel) × Contains nets net × Contains net.terminals (Pin p)

-- The entries of both sections: a terminal is in one net at most, and there are no more than there may be.
pub record HasNets (design : DesignModel) : Type 0 where
  pub nets : AreNets design false design.nets
  pub special : AreNets design true design.special
  pub one_net : AreInOneNet (design.nets ++ design.special)
  pub lone : (p : ℕ) (pin : PinModel) → slice_get design.pins p ≡ Some pin → IsInSomeNet (design.nets ++ design.special) p pin.net_name
  pub few : length design.nets + length design.special ≤ ENTRY_LIMIT
  pub few_terminals : terminal_count design.nets + terminal_count design.special ≤ PART_LIMIT
  pub few_wires : wire_count design.nets + wire_count design.special ≤ PART_LIMIT
