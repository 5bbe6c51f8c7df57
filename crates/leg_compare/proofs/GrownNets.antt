-- What differs where entries of NETS have got wires.
use Rattle.std.proofs.Common.{◌≡◌, ℕ, zero, suc, List, [], ◌∷◌, ◌++◌, Some, slice_get, refl, sym, ap, ◌∙◌, subst}
use Rattle.std.proofs.lemmas.Option.{same_Some}
use Rattle.leg_lib_records.specs.Scale.{OneForOne}
use Rattle.leg_design_records.specs.declared.records.Terminal.{Terminal}
use Rattle.leg_design_records.specs.declared.records.Terminal.TheVariants.{Comp, Pin}
use Rattle.leg_design_records.specs.declared.records.Wire.{Wire}
use Rattle.leg_design_records.specs.declared.records.Wire.TheVariants.{Segment, ViaAt, Patch}
use Rattle.leg_design_records.specs.Records.{DesignModel, NetModel, net_names}
use Rattle.leg_design_records.specs.WellFormed.{IsWellFormed}
use Rattle.leg_rules.specs.Route.SameButForWires.{IsSameNetButForWires, IsSameButForWires}
use Rattle.leg_rules.specs.declared.difference.Part.{Part}
use Rattle.leg_rules.specs.declared.difference.Part.TheVariants.{Name, Divider, BusBits, Die, Rows, Tracks, Blockages}
use Rattle.leg_rules.specs.declared.difference.Section.{Section}
use Rattle.leg_rules.specs.declared.difference.Section.TheVariants.{Vias, Components, Pins, SpecialNets, Nets}
use Rattle.leg_rules.specs.declared.difference.Change.{Change}
use Rattle.leg_rules.specs.declared.difference.Change.TheVariants.{Shapes, Macro, Place, Status, NetName, Direction, Usage, Ports, Terminals, LostWires, MoreWires}
use Rattle.leg_rules.specs.declared.difference.Difference.{Difference}
use Rattle.leg_rules.specs.declared.difference.Difference.TheVariants.{Changed}
use Rattle.leg_rules.specs.Compare.Sections.{names_of}
use Rattle.leg_rules.specs.Compare.Spelling.{spelled_terminals, spelled_wire, spelled_wires}
use Rattle.leg_design_records.specs.Names.{terminal_names}
use Rattle.leg_rules.specs.Compare.Differences.{DiffersInPart, DiffersAsVia, DiffersAsComponent, DiffersAsPin, DiffersAsNet, DifferAt, HasChanged, IsDifference}
use Rattle.leg_rules.specs.Compare.Verdicts.{IsGrowth}
use Rattle.leg_compare.proofs.TerminalSets.{same_if_equal}
use Rattle.leg_compare.proofs.Alike.{names_apart, AreAlike, IsChangeAt, only_changes, none_differ, same_via, same_component, same_pin, same_net, goes_on_itself, terminals_same}

-- entries that correspond have one name, and stand at one place
pub same_net_names : (before after : List NetModel) → OneForOne IsSameNetButForWires before after → net_names after ≡ net_names before
same_net_names [] [] h = refl
same_net_names [] (y ∷ ys) h = absurd h
same_net_names (x ∷ xs) [] h = absurd h
same_net_names (x ∷ xs) (y ∷ ys) h =
    let head : y.name ≡ x.name = ap (λ (n : NetModel). n.name) h.0.is in
    let tail = same_net_names xs ys h.1 in
    λ i. head i ∷ tail i

grown_at : (before after : List NetModel) (i : ℕ) (x y : NetModel) → OneForOne IsSameNetButForWires before after → slice_get before i ≡ Some x
    → slice_get after i ≡ Some y → IsSameNetButForWires x y
grown_at [] after i x y h there here = absurd (let no : ⊥ = cc in no)
grown_at (a ∷ before) [] i x y h there here = absurd h
grown_at (a ∷ before) (b ∷ after) zero x y h there here =
    let first : a ≡ x = same_Some a x there in
    let second : b ≡ y = same_Some b y here in
    subst (λ (n : NetModel). IsSameNetButForWires n y) first (subst (λ (n : NetModel). IsSameNetButForWires a n) second h.0)
grown_at (a ∷ before) (b ∷ after) (suc i) x y h there here = grown_at before after i x y h.1 there here

module _ (first second : DesignModel) (terminals : (t : Terminal) → terminal_names second t ≡ terminal_names first t)
    (wires : (w : Wire) → spelled_wire second w ≡ spelled_wire first w) where
  goes_on : (front more : List Wire) → spelled_wires second (front ++ more) ≡ spelled_wires first front ++ spelled_wires first more
  goes_on [] more = goes_on_itself first second wires more
  goes_on (w ∷ front) more = λ i. wires w i ∷ goes_on front more i

  -- an entry that has grown has more wires, and nothing else of it differs
  growth_of : (change : Change) (x y : NetModel) → IsSameNetButForWires x y → DiffersAsNet first second change x y → change ≡ MoreWires
  growth_of Shapes x y same differ = absurd differ
  growth_of Macro x y same differ = absurd differ
  growth_of Status x y same differ = absurd differ
  growth_of Place x y same differ = absurd differ
  growth_of NetName x y same differ = absurd differ
  growth_of Direction x y same differ = absurd differ
  growth_of Usage x y same differ = absurd (differ (sym (ap (λ (n : NetModel). n.usage) same.is)))
  growth_of Ports x y same differ = absurd differ
  growth_of Terminals x y same differ = absurd (differ (same_if_equal _ _
      (sym (ap (λ (n : NetModel). spelled_terminals second n.terminals) same.is ∙ terminals_same first second terminals x.terminals))))
  growth_of LostWires x y same differ = absurd (differ (record
      { more = spelled_wires first same.more; is = ap (λ (n : NetModel). spelled_wires second n.wires) same.is ∙ goes_on x.wires same.more }))
  growth_of MoreWires x y same differ = refl

  pub growth_at : (change : Change) (i : ℕ) (before after : List NetModel) → OneForOne IsSameNetButForWires before after
      → DifferAt (DiffersAsNet first second change) before after i i → change ≡ MoreWires
  growth_at change i before after grown h = growth_of change h.x h.y (grown_at before after i h.x h.y grown h.at_first h.at_second) h.differ

module _ (before : DesignModel) (proper : IsWellFormed before) (nets : List NetModel) (grown : OneForOne IsSameNetButForWires before.nets nets) where
  terminal_same : (t : Terminal) → terminal_names (record before { nets = nets }) t ≡ terminal_names before t
  terminal_same (Comp c k) = refl
  terminal_same (Pin p) = refl

  wire_same : (w : Wire) → spelled_wire (record before { nets = nets }) w ≡ spelled_wire before w
  wire_same (Segment layer from to width ext_from ext_to) = refl
  wire_same (ViaAt number at) = refl
  wire_same (Patch layer at rect) = refl

  alike : AreAlike before (record before { nets = nets })
  alike = record { parts = part_same; names = names_same; apart = names_apart before proper } where
    part_same : (part : Part) → ¬ DiffersInPart part before (record before { nets = nets })
    part_same Name h = h refl
    part_same Divider h = h refl
    part_same BusBits h = h refl
    part_same Die h = h refl
    part_same Rows h = h refl
    part_same Tracks h = h refl
    part_same Blockages h = h refl

    names_same : (section : Section) → names_of section (record before { nets = nets }) ≡ names_of section before
    names_same Vias = refl
    names_same Components = refl
    names_same Pins = refl
    names_same SpecialNets = refl
    names_same Nets = same_net_names before.nets nets grown

  -- every difference is a growth
  pub only_growths : (d : Difference) → IsDifference before (record before { nets = nets }) d → IsGrowth d
  only_growths d is = by (only_changes before (record before { nets = nets }) alike d is) where
    changed : (section : Section) (change : Change) (i : ℕ) → d ≡ Changed section change i
        → HasChanged section change before (record before { nets = nets }) i i → IsGrowth d
    changed Vias change i is_d h = absurd (none_differ (DiffersAsVia change) before.vias i (same_via change) h)
    changed Components change i is_d h = absurd (none_differ (DiffersAsComponent change) before.components i (same_component change) h)
    changed Pins change i is_d h = absurd (none_differ (DiffersAsPin change) before.pins i (same_pin change) h)
    changed SpecialNets change i is_d h =
        absurd (none_differ (DiffersAsNet before (record before { nets = nets }) change) before.special i
        (same_net before (record before { nets = nets }) terminal_same wire_same change) h)
    changed Nets change i is_d h = record {
      i = i;
      is = is_d
          ∙ ap (λ c. Changed Nets c i) (growth_at before (record before { nets = nets }) terminal_same wire_same change i before.nets nets grown h);
    }

    by : IsChangeAt before (record before { nets = nets }) d → IsGrowth d
    by c = changed c.section c.change c.i c.is c.changed

-- of designs that are the same but for added wires, entries of NETS have more wires, and nothing else differs
pub wires_differ : (before after : DesignModel) → IsWellFormed before → IsSameButForWires before after → (d : Difference) → IsDifference before after d
    → IsGrowth d
wires_differ before after proper same d is =
    only_growths before proper after.nets same.nets d (subst (λ (design : DesignModel). IsDifference before design d) same.rest is)
