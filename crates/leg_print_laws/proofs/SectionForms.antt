-- Each section of the printed text leads on, and at the end the design is said.
use Rattle.std.proofs.Common.{◌≡◌, ℕ, ◌+◌, ◌≤◌, Bool, true, false, List, [], ◌∷◌, ◌++◌, Contains, length, Some, codes, refl, subst, arith}
use Rattle.std.specs.List.{flat_map}
use Rattle.std.proofs.lemmas.List.{append-nil}
use Rattle.std.proofs.lemmas.List.Elements.{Contains-append_right}
use Rattle.leg_lex.specs.declared.limits.TheConstants.{NUMBER_LIMIT}
use Rattle.leg_lib_records.specs.Records.{ViaModel}
use Rattle.leg_design_records.specs.declared.limits.TheConstants.{PART_LIMIT}
use Rattle.leg_design_records.specs.declared.records.Component.{Component}
use Rattle.leg_design_records.specs.Records.{DesignModel, PinModel, BlockageModel, NetModel, terminal_count}
use Rattle.leg_design_records.specs.WellFormedParts.{AreComponents, AreVias, ArePins, AreBlockages}
use Rattle.leg_design_records.specs.WellFormedNets.{IsInSomeNet, HasNets}
use Rattle.leg_grammar.specs.declared.profile.Profile.TheVariants.{Narrow}
use Rattle.leg_grammar.specs.Def.Parts.{Appearances, DesignParts, vias_form, components_form, pins_form, blockages_form, nets_section_form, nets_form, special_section_form, special_form}
use Rattle.leg_grammar.specs.Def.Form.{def_form_at, design_of}
use Rattle.leg_output.specs.Text.Vias.{via_words}
use Rattle.leg_output.specs.Text.Components.{component_words}
use Rattle.leg_output.specs.Text.Pins.{pin_words}
use Rattle.leg_output.specs.Text.Blockages.{blockage_words}
use Rattle.leg_output.specs.Text.Nets.{net_words}
use Rattle.leg_design_records.specs.Names.{net_section}
use Rattle.leg_print_laws.proofs.Tests.{not_above}
use Rattle.leg_print_laws.specs.PrintedNames.{StayOne, via_entry_names, component_entry_names, pin_entry_names, net_entry_names}
use Rattle.leg_print_laws.proofs.Vias.{vias_again}
use Rattle.leg_print_laws.proofs.Components.{components_again}
use Rattle.leg_print_laws.proofs.Pins.{pins_again}
use Rattle.leg_print_laws.proofs.Blockages.{blockages_again}
use Rattle.leg_print_laws.proofs.Nets.{HasParts, AreEntries, nets_again}
use Rattle.leg_print_laws.proofs.NoLonePins.{no_lone_pins}
use Rattle.leg_print_laws.proofs.Sections.{section_words}
use Rattle.leg_print_laws.proofs.FormsInTurn.{Leads, leads_nil, leads_form}

-- a section appears where it has entries
abbrev pub has_some : {X : Type 0} → List X → Bool
has_some [] = false
has_some (x ∷ xs) = true

-- which sections have appeared, after the forms before them
abbrev pub appearances : Bool → Bool → Bool → Bool → Bool → Bool → Appearances
appearances vias components pins blockages special nets = record {
  name = true;
  units = true;
  die = true;
  vias = vias;
  components = components;
  pins = pins;
  blockages = blockages;
  nets = nets;
  special = special;
}

-- what the sections gave so far
abbrev pub said_parts : DesignModel → Appearances → List ViaModel → List Component → List PinModel → List BlockageModel → List NetModel → List NetModel
    → DesignParts
said_parts design forms vias components pins blockages special nets = record {
  profile = Narrow;
  has = forms;
  design = record design { vias = vias; components = components; pins = pins; blockages = blockages; nets = nets; special = special };
  dropped = [];
  rules = [];
  turned = [];
}

module _ (design : DesignModel) (has : HasParts design) where
  pub vias_lead : (vias : List ViaModel) → AreVias design.library vias → length vias ≤ NUMBER_LIMIT → StayOne (flat_map (via_entry_names design) vias)
      → Leads (said_parts design (appearances false false false false false false) [] [] [] [] [] []) (section_words (codes "VIAS") (via_words design) vias)
      (said_parts design (appearances (has_some vias) false false false false false) vias [] [] [] [] [])
  unfolding def_form_at vias_form
  vias_lead [] are few one = leads_nil (said_parts design (appearances false false false false false false) [] [] [] [] [] [])
  vias_lead (via ∷ vias) are few one =
      leads_form _ (section_words (codes "VIAS") (via_words design) (via ∷ vias)) _ (omega arith) (λ rest. refl)
      (λ rest. rw (vias_again design via vias has.sound are few one rest) refl)

  pub components_lead : (v : Bool) (vias : List ViaModel) (components : List Component) → AreComponents design.library components
      → StayOne (flat_map (component_entry_names design) components)
      → Leads (said_parts design (appearances v false false false false false) vias [] [] [] [] [])
      (section_words (codes "COMPONENTS") (component_words design) components)
      (said_parts design (appearances v (has_some components) false false false false) vias components [] [] [] [])
  unfolding def_form_at components_form
  components_lead v vias [] are one = leads_nil (said_parts design (appearances v false false false false false) vias [] [] [] [] [])
  components_lead v vias (component ∷ components) are one =
      leads_form _ (section_words (codes "COMPONENTS") (component_words design) (component ∷ components)) _ (omega arith) (λ rest. refl)
      (λ rest. rw (components_again design component components has.sound are one rest) refl)

  pub pins_lead : (v c : Bool) (vias : List ViaModel) (components : List Component) (pins : List PinModel) → ArePins design.library pins
      → StayOne (flat_map (pin_entry_names design) pins)
      → Leads (said_parts design (appearances v c false false false false) vias components [] [] [] []) (section_words (codes "PINS") (pin_words design) pins)
      (said_parts design (appearances v c (has_some pins) false false false) vias components pins [] [] [])
  unfolding def_form_at pins_form
  pins_lead v c vias components [] are one = leads_nil (said_parts design (appearances v c false false false false) vias components [] [] [] [])
  pins_lead v c vias components (pin ∷ pins) are one =
      leads_form _ (section_words (codes "PINS") (pin_words design) (pin ∷ pins)) _ (omega arith) (λ rest. refl)
      (λ rest. rw (pins_again design (said_parts design (appearances v c false false false false) vias components [] [] [] []).design pin pins has.sound
      are one rest) refl)

  pub blockages_lead : (v c p : Bool) (vias : List ViaModel) (components : List Component) (pins : List PinModel) (blockages : List BlockageModel)
      → AreBlockages design.library blockages
      → Leads (said_parts design (appearances v c p false false false) vias components pins [] [] [])
      (section_words (codes "BLOCKAGES") (blockage_words design) blockages)
      (said_parts design (appearances v c p (has_some blockages) false false) vias components pins blockages [] [])
  unfolding def_form_at blockages_form
  blockages_lead v c p vias components pins [] are = leads_nil (said_parts design (appearances v c p false false false) vias components pins [] [] [])
  blockages_lead v c p vias components pins (blockage ∷ blockages) are =
      leads_form _ (section_words (codes "BLOCKAGES") (blockage_words design) (blockage ∷ blockages)) _ (omega arith) (λ rest. refl)
      (λ rest. rw (blockages_again design blockage blockages has.sound are rest) refl)

  pub special_lead : (v c p b : Bool) (special : List NetModel) → AreEntries design true special [] → StayOne (flat_map (net_entry_names design) special)
      → Leads (said_parts design (appearances v c p b false false) design.vias design.components design.pins design.blockages [] [])
      (section_words (net_section true) (net_words design true) special)
      (said_parts design (appearances v c p b (has_some special) false) design.vias design.components design.pins design.blockages special [])
  unfolding def_form_at special_form special_section_form
  special_lead v c p b [] are one =
      leads_nil (said_parts design (appearances v c p b false false) design.vias design.components design.pins design.blockages [] [])
  special_lead v c p b (net ∷ nets) are one =
      leads_form _ (section_words (net_section true) (net_words design true) (net ∷ nets)) _ (omega arith) (λ rest. refl)
      (λ rest. rw (nets_again design has true net nets [] are one rest) refl)

  pub nets_lead : (v c p b s : Bool) (special nets : List NetModel) → AreEntries design false nets special → StayOne (flat_map (net_entry_names design) nets)
      → Leads (said_parts design (appearances v c p b s false) design.vias design.components design.pins design.blockages special [])
      (section_words (net_section false) (net_words design false) nets)
      (said_parts design (appearances v c p b s (has_some nets)) design.vias design.components design.pins design.blockages special nets)
  unfolding def_form_at nets_form nets_section_form
  nets_lead v c p b s special [] are one =
      leads_nil (said_parts design (appearances v c p b s false) design.vias design.components design.pins design.blockages special [])
  nets_lead v c p b s special (net ∷ nets) are one =
      leads_form _ (section_words (net_section false) (net_words design false) (net ∷ nets)) _ (omega arith) (λ rest. refl)
      (λ rest. rw (nets_again design has false net nets special are one rest) refl)

  -- the entries of both sections
  pub nets_are : HasNets design → AreEntries design false design.nets design.special
  nets_are nets = record { are = nets.nets; one_net = nets.one_net; few = nets.few; few_terminals = nets.few_terminals; few_wires = nets.few_wires }

  pub special_are : HasNets design → AreEntries design true design.special []
  special_are nets = record {
    are = nets.special;
    one_net = λ a b t in_a in_b there here. nets.one_net a b t (all a in_a) (all b in_b) there here;
    few = omega (arith, nets.few);
    few_terminals = omega (arith, nets.few_terminals);
    few_wires = omega (arith, nets.few_wires);
  } where
    all : (net : NetModel) → Contains (design.special ++ []) net → Contains (design.nets ++ design.special) net
    all net inside = Contains-append_right design.nets design.special net (rw (append-nil design.special) at inside)

-- what was said in the end is the design
from_zero : (k : ℕ) → k ≡ 0 + k
from_zero k = omega arith

pub design_said : (design : DesignModel) (v c p b s n : Bool) → HasNets design
    → design_of (said_parts design (appearances v c p b s n) design.vias design.components design.pins design.blockages design.special
    design.nets) ≡ Some design
unfolding design_of
design_said design v c p b s n nets =
    rw (
      no_lone_pins (record { nets = design.nets; special = design.special }) 0 design.pins
          (λ k pin is. subst (λ i. IsInSomeNet (design.nets ++ design.special) i pin.net_name) (from_zero k) (nets.lone k pin is)),
      not_above (terminal_count design.nets + terminal_count design.special) PART_LIMIT nets.few_terminals,
    ) refl
