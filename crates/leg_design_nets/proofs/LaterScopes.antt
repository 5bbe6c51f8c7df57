-- What is read under the vias, components and pins before it holds under those that come after.
use Rattle.std.proofs.Common.{◌≡◌, ◌<◌, Bool, List, [], ◌++◌, append-nil, append_assoc, slice_get, All, Option, None, Some, sym, ap, ◌∙◌, arith}
use Rattle.std.proofs.lemmas.List.Elements.{All-weaker}
use Rattle.leg_lemmas.proofs.Places.{get_first}
use Rattle.leg_lib_records.specs.Records.{ViaModel, RuleModel}
use Rattle.leg_design_records.specs.declared.records.Component.{Component}
use Rattle.leg_design_records.specs.declared.records.Terminal.{Terminal}
use Rattle.leg_design_records.specs.declared.records.Terminal.TheVariants.{Comp, Pin}
use Rattle.leg_design_records.specs.declared.records.Wire.{Wire}
use Rattle.leg_design_records.specs.declared.records.Wire.TheVariants.{Segment, ViaAt, Patch}
use Rattle.leg_grammar.specs.declared.turned_via.TurnedVia.{TurnedVia}
use Rattle.leg_grammar.specs.Def.NetScope.{NetScopeModel}
use Rattle.leg_design_records.specs.Records.{PinModel, NetModel}
use Rattle.leg_design_records.specs.WellFormedNets.{IsWire}
use Rattle.leg_design_nets.proofs.ReadTerminals.{IsKnownTerminal}
use Rattle.leg_design_nets.proofs.ReadNets.{IsKnownNet}

-- what holds under the one holds under the other
pub record Grows (scope next : NetScopeModel) : Type 0 where
  pub terminals : (t : Terminal) → IsKnownTerminal scope t → IsKnownTerminal next t
  pub wires : (special : Bool) (wire : Wire) → IsWire scope.library scope.vias special wire → IsWire next.library next.vias special wire

pub nets_grow : (scope next : NetScopeModel) (special : Bool) (nets : List NetModel) → Grows scope next → All (IsKnownNet scope special) nets
    → All (IsKnownNet next special) nets
nets_grow scope next special nets grows each =
    All-weaker (IsKnownNet scope special) (IsKnownNet next special) (λ net is. record {
      name = is.name;
      no_must_join = is.no_must_join;
      usage = is.usage;
      terminals = All-weaker (IsKnownTerminal scope) (IsKnownTerminal next) grows.terminals net.terminals is.terminals;
      once = is.once;
      wires = All-weaker (IsWire scope.library scope.vias special) (IsWire next.library next.vias special) (grows.wires special) net.wires is.wires;
    }) nets each

module _ (scope : NetScopeModel) where
  pub vias_grow : (vias : List ViaModel) → scope.vias ≡ [] → Grows scope (record scope { vias = vias })
  vias_grow vias none = record { terminals = same; wires = still } where
    same : (t : Terminal) → IsKnownTerminal scope t → IsKnownTerminal (record scope { vias = vias }) t
    same (Comp c k) is = is
    same (Pin p) is = is

    still : (special : Bool) (wire : Wire) → IsWire scope.library scope.vias special wire → IsWire scope.library vias special wire
    still special (Segment layer from to width ext_from ext_to) is = is
    still special (ViaAt number at) is =
        let there : slice_get (scope.library.vias ++ []) number ≡ Some is.1.0 =
        ap (λ vias. slice_get (scope.library.vias ++ vias) number) (sym none) ∙ is.1.1 in
        (is.0, (is.1.0, get_first scope.library.vias vias number is.1.0 (rw append-nil at there), is.1.2))
    still special (Patch layer at rect) is = is

  pub more_vias_grow : (vias others : List ViaModel) (turned : List TurnedVia) → vias ≡ scope.vias ++ others
      → Grows scope (record scope { vias = vias; turned = turned })
  more_vias_grow vias others turned behind = record { terminals = same; wires = still } where
    same : (t : Terminal) → IsKnownTerminal scope t → IsKnownTerminal (record scope { vias = vias; turned = turned }) t
    same (Comp c k) is = is
    same (Pin p) is = is

    still : (special : Bool) (wire : Wire) → IsWire scope.library scope.vias special wire → IsWire scope.library vias special wire
    still special (Segment layer from to width ext_from ext_to) is = is
    still special (ViaAt number at) is =
        let there : slice_get (scope.library.vias ++ vias) number ≡ Some is.1.0 =
        ap (λ all. slice_get (scope.library.vias ++ all) number) behind
        ∙ ap (λ all. slice_get all number) (sym (append_assoc scope.library.vias scope.vias others))
        ∙ get_first (scope.library.vias ++ scope.vias) others number is.1.0 is.1.1 in
        (is.0, (is.1.0, there, is.1.2))
    still special (Patch layer at rect) is = is

  pub components_grow : (components : List Component) → scope.components ≡ [] → Grows scope (record scope { components = components })
  components_grow components none = record { terminals = still; wires = λ special wire is. is } where
    still : (t : Terminal) → IsKnownTerminal scope t → IsKnownTerminal (record scope { components = components }) t
    still (Comp c k) is =
        let nowhere : ◌≡◌ {A = Option Component} None (Some is.0) = rw none at is.1 in
        absurd (let e : ⊥ = cc in e)
    still (Pin p) is = is

  pub pins_grow : (pins : List PinModel) → scope.pins ≡ [] → Grows scope (record scope { pins = pins })
  pins_grow pins none = record { terminals = still; wires = λ special wire is. is } where
    still : (t : Terminal) → IsKnownTerminal scope t → IsKnownTerminal (record scope { pins = pins }) t
    still (Comp c k) is = is
    still (Pin p) is =
        let nowhere : p < 0 = rw none at is in
        absurd (omega arith)

  pub rules_grow : (rules : List RuleModel) → Grows scope (record scope { rules = rules })
  rules_grow rules = record { terminals = same; wires = λ special wire is. is } where
    same : (t : Terminal) → IsKnownTerminal scope t → IsKnownTerminal (record scope { rules = rules }) t
    same (Comp c k) is = is
    same (Pin p) is = is
