-- What differs where movable components have moved and entries of NETS have got wires, and where nothing has changed.
use Rattle.std.proofs.Common.{◌≡◌, ℕ, ◌⊎◌, inl, inr, List, length, Some, slice_get, refl, ap, ◌∙◌, subst}
use Rattle.leg_lib_records.specs.Scale.{OneForOne}
use Rattle.leg_design_records.specs.declared.records.Component.{Component}
use Rattle.leg_design_records.specs.declared.records.Terminal.{Terminal}
use Rattle.leg_design_records.specs.declared.records.Terminal.TheVariants.{Comp, Pin}
use Rattle.leg_design_records.specs.declared.records.Wire.{Wire}
use Rattle.leg_design_records.specs.declared.records.Wire.TheVariants.{Segment, ViaAt, Patch}
use Rattle.leg_design_records.specs.Records.{DesignModel, NetModel}
use Rattle.leg_design_records.specs.WellFormed.{IsWellFormed}
use Rattle.leg_rules.specs.Legalise.SameButForPlaces.{IsSameButForPlaces}
use Rattle.leg_rules.specs.Route.SameButForWires.{IsSameNetButForWires, IsSameButForWires}
use Rattle.leg_rules.specs.declared.difference.Part.{Part}
use Rattle.leg_rules.specs.declared.difference.Part.TheVariants.{Name, Divider, BusBits, Die, Rows, Tracks, Blockages}
use Rattle.leg_rules.specs.declared.difference.Section.{Section}
use Rattle.leg_rules.specs.declared.difference.Section.TheVariants.{Vias, Components, Pins, SpecialNets, Nets}
use Rattle.leg_rules.specs.declared.difference.Change.{Change}
use Rattle.leg_rules.specs.declared.difference.Difference.{Difference}
use Rattle.leg_rules.specs.declared.difference.Difference.TheVariants.{Changed}
use Rattle.leg_rules.specs.Compare.Sections.{names_of}
use Rattle.leg_rules.specs.Compare.Spelling.{spelled_wire}
use Rattle.leg_design_records.specs.Names.{terminal_names}
use Rattle.leg_rules.specs.Compare.Differences.{DiffersInPart, DiffersAsVia, DiffersAsComponent, DiffersAsPin, DiffersAsNet, HasChanged, IsDifference}
use Rattle.leg_rules.specs.Compare.Verdicts.{IsMove, IsGrowth}
use Rattle.leg_compare.proofs.Alike.{names_apart, AreAlike, IsChangeAt, only_changes, none_differ, same_via, same_component, same_pin, same_net}
use Rattle.leg_compare.proofs.MovedPlaces.{IsKeptOrMoved, kept_or_moved, same_component_names, terminal_same as owner_same, move_at}
use Rattle.leg_compare.proofs.GrownNets.{same_net_names, growth_at}

module _ (before : DesignModel) (proper : IsWellFormed before) (components : List Component) (count : length components ≡ length before.components)
    (kept : (i : ℕ) (old new : Component) → slice_get before.components i ≡ Some old → slice_get components i ≡ Some new → IsKeptOrMoved before i old new)
    (nets : List NetModel) (grown : OneForOne IsSameNetButForWires before.nets nets) where
  abbrev pub changed_to : DesignModel
  changed_to = record before { components = components; nets = nets }

  terminal_same : (t : Terminal) → terminal_names changed_to t ≡ terminal_names before t
  terminal_same (Comp c k) = owner_same before proper components count kept (Comp c k)
  terminal_same (Pin p) = refl

  wire_same : (w : Wire) → spelled_wire changed_to w ≡ spelled_wire before w
  wire_same (Segment layer from to width ext_from ext_to) = refl
  wire_same (ViaAt number at) = refl
  wire_same (Patch layer at rect) = refl

  alike : AreAlike before changed_to
  alike = record { parts = part_same; names = names_same; apart = names_apart before proper } where
    part_same : (part : Part) → ¬ DiffersInPart part before changed_to
    part_same Name h = h refl
    part_same Divider h = h refl
    part_same BusBits h = h refl
    part_same Die h = h refl
    part_same Rows h = h refl
    part_same Tracks h = h refl
    part_same Blockages h = h refl

    names_same : (section : Section) → names_of section changed_to ≡ names_of section before
    names_same Vias = refl
    names_same Components = same_component_names before proper components count kept
    names_same Pins = refl
    names_same SpecialNets = refl
    names_same Nets = same_net_names before.nets nets grown

  -- every difference is a move or a growth
  pub moves_and_growths : (d : Difference) → IsDifference before changed_to d → IsMove before d ⊎ IsGrowth d
  moves_and_growths d is = by (only_changes before changed_to alike d is) where
    changed : (section : Section) (change : Change) (i : ℕ) → d ≡ Changed section change i → HasChanged section change before changed_to i i
        → IsMove before d ⊎ IsGrowth d
    changed Vias change i is_d h = absurd (none_differ (DiffersAsVia change) before.vias i (same_via change) h)
    changed Components change i is_d h =
        let move = move_at before proper components count kept change i h in
        inl (record { i = i; is = is_d ∙ ap (λ c. Changed Components c i) move.0; movable = move.1 })
    changed Pins change i is_d h = absurd (none_differ (DiffersAsPin change) before.pins i (same_pin change) h)
    changed SpecialNets change i is_d h = absurd (none_differ (DiffersAsNet before changed_to change) before.special i
        (same_net before changed_to terminal_same wire_same change) h)
    changed Nets change i is_d h =
        inr (record { i = i; is = is_d ∙ ap (λ c. Changed Nets c i) (growth_at before changed_to terminal_same wire_same change i before.nets nets grown h) })

    by : IsChangeAt before changed_to d → IsMove before d ⊎ IsGrowth d
    by c = changed c.section c.change c.i c.is c.changed

-- of a design that was legalised and then routed, movable components have other places, entries of NETS have more wires, and nothing
-- else differs
pub places_and_wires_differ : (before between after : DesignModel) → IsWellFormed before → IsSameButForPlaces before between → IsSameButForWires between after
    → (d : Difference) → IsDifference before after d → IsMove before d ⊎ IsGrowth d
places_and_wires_differ before between after proper moved grown d is =
    moves_and_growths before proper between.components moved.count (kept_or_moved before between moved) after.nets grown_nets d
    (subst (λ (design : DesignModel). IsDifference before design d) (grown.rest ∙ ap (λ (b : DesignModel). record b { nets = after.nets }) moved.rest) is) where
      grown_nets : OneForOne IsSameNetButForWires before.nets after.nets
      grown_nets = subst (λ (nets : List NetModel). OneForOne IsSameNetButForWires nets after.nets) (ap (λ (b : DesignModel). b.nets) moved.rest) grown.nets

-- a design does not differ from itself
pub never_from_itself : (design : DesignModel) → IsWellFormed design → (d : Difference) → ¬ IsDifference design design d
never_from_itself design proper d is = by (only_changes design design alike d is) where
  alike : AreAlike design design
  alike = record { parts = part_same; names = λ section. refl; apart = names_apart design proper } where
    part_same : (part : Part) → ¬ DiffersInPart part design design
    part_same Name h = h refl
    part_same Divider h = h refl
    part_same BusBits h = h refl
    part_same Die h = h refl
    part_same Rows h = h refl
    part_same Tracks h = h refl
    part_same Blockages h = h refl

  changed : (section : Section) (change : Change) (i : ℕ) → ¬ HasChanged section change design design i i
  changed Vias change i h = none_differ (DiffersAsVia change) design.vias i (same_via change) h
  changed Components change i h = none_differ (DiffersAsComponent change) design.components i (same_component change) h
  changed Pins change i h = none_differ (DiffersAsPin change) design.pins i (same_pin change) h
  changed SpecialNets change i h = none_differ (DiffersAsNet design design change) design.special i (same_net design design (λ t. refl) (λ w. refl) change) h
  changed Nets change i h = none_differ (DiffersAsNet design design change) design.nets i (same_net design design (λ t. refl) (λ w. refl) change) h

  by : IsChangeAt design design d → ⊥
  by c = changed c.section c.change c.i c.changed
