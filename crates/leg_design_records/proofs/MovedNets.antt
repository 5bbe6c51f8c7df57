-- A design of which a component moved is well-formed still.
use Rattle.std.proofs.Common.{◌≡◌, ℕ, zero, suc, List, [], ◌∷◌, Some, slice_get, ap, refl, ◌∙◌, arith, true, false}
use Rattle.std.proofs.lemmas.List.Elements.{All-weaker}
use Rattle.std.proofs.lemmas.Option.{same_Some, none-some}
use Rattle.leg_geom.specs.declared.place.Place.{Place}
use Rattle.leg_design_records.specs.declared.records.Component.{Component}
use Rattle.leg_design_records.specs.declared.records.Terminal.{Terminal}
use Rattle.leg_design_records.specs.declared.records.Terminal.TheVariants.{Comp, Pin}
use Rattle.leg_design_records.specs.Records.{DesignModel}
use Rattle.leg_design_records.specs.WellFormedParts.{IsPosition}
use Rattle.leg_design_records.specs.WellFormedNets.{IsTerminal, IsNet, HasNets}
use Rattle.leg_design_records.specs.WellFormed.{IsWellFormed}
use Rattle.leg_design_records.proofs.OneOther.{IsPlacedOn}
use Rattle.leg_design_records.proofs.Moves.{moved, with_moved, design_moved, components_stay}
use Rattle.leg_design_records.proofs.NetReferences.{Keeps, net_kept}

-- at this number there is a component of that master
pub record HasMaster (components : List Component) (k master : ℕ) : Type 0 where
  pub component : Component
  pub there : slice_get components k ≡ Some component
  pub same : component.master ≡ master

stands_in_rest : (first : Component) (components : List Component) (n : ℕ) (component : Component) → IsPlacedOn (first ∷ components) (suc n) component
    → IsPlacedOn components n component
stands_in_rest first components n component at = record { within = omega (arith, at.within); is = at.is }

pub master_stays : (components : List Component) (n : ℕ) (component : Component) (place : Place) → IsPlacedOn components n component
    → (k : ℕ) (found : Component) → slice_get components k ≡ Some found → HasMaster (with_moved components n component place) k found.master
master_stays [] n component place at k found is = absurd (none-some found is)
master_stays (first ∷ components) zero component place at zero found is =
    record { component = moved component place; there = refl; same = ap (λ (c : Component). c.master) (at.is ∙ same_Some first found is) }
master_stays (first ∷ components) zero component place at (suc k) found is =
    record { component = found; there = is; same = refl }
master_stays (first ∷ components) (suc n) component place at zero found is =
    record { component = found; there = is; same = refl }
master_stays (first ∷ components) (suc n) component place at (suc k) found is =
    let rest = master_stays components n component place (stands_in_rest first components n component at) k found is in
    record { component = rest.component; there = rest.there; same = rest.same }

terminal_stays : (design : DesignModel) (n : ℕ) (component : Component) (place : Place) → IsPlacedOn design.components n component → (terminal : Terminal)
    → IsTerminal design terminal → IsTerminal (design_moved design n component place) terminal
terminal_stays design n component place at (Pin p) proper = proper
terminal_stays design n component place at (Comp c k) proper =
    let now = master_stays design.components n component place at c proper.0 proper.1 in
    (now.component, now.there, (proper.2.0, ap (slice_get design.library.masters) now.same ∙ proper.2.1, proper.2.2))

moved_keeps : (design : DesignModel) (n : ℕ) (component : Component) (place : Place) → IsPlacedOn design.components n component
    → Keeps design (design_moved design n component place)
moved_keeps design n component place at = record {
  terminals = terminal_stays design n component place at;
  wires = λ special wire proper. proper;
}

pub nets_stay : (design : DesignModel) (n : ℕ) (component : Component) (place : Place) → IsPlacedOn design.components n component → HasNets design
    → HasNets (design_moved design n component place)
nets_stay design n component place at proper =
    let after = design_moved design n component place in
    let keeps = moved_keeps design n component place at in
    record {
      nets = record {
        each = All-weaker (IsNet design false) (IsNet after false) (net_kept design after keeps false) design.nets proper.nets.each;
        apart = proper.nets.apart;
      };
      special = record {
        each = All-weaker (IsNet design true) (IsNet after true) (net_kept design after keeps true) design.special proper.special.each;
        apart = proper.special.apart;
      };
      one_net = proper.one_net;
      lone = proper.lone;
      few = proper.few;
      few_terminals = proper.few_terminals;
      few_wires = proper.few_wires;
    }

pub stays_well_formed : (design : DesignModel) (n : ℕ) (component : Component) (place : Place) → IsPlacedOn design.components n component → IsPosition place.at
    → IsWellFormed design → IsWellFormed (design_moved design n component place)
stays_well_formed design n component place at within proper = record {
  name = proper.name;
  divider = proper.divider;
  bus = proper.bus;
  die = proper.die;
  components = components_stay design.library design.components n component place at within proper.components;
  rows = proper.rows;
  tracks = proper.tracks;
  vias = proper.vias;
  pins = proper.pins;
  blockages = proper.blockages;
  nets = nets_stay design n component place at proper.nets;
}
