-- Designs whose entries have the same names in the same order, and that differ in no part.
use Rattle.std.proofs.Common.{◌≡◌, ℕ, ◌<◌, List, [], ◌∷◌, length, get_or, Some, refl, sym, ap, ◌∙◌, subst}
use Rattle.std.proofs.lemmas.List.{append-nil}
use Rattle.std.proofs.lemmas.Option.{same_Some}
use Rattle.leg_lex.specs.NameLookup.{place_of, AreApart}
use Rattle.leg_lib_records.specs.Records.{ViaModel}
use Rattle.leg_design_records.specs.declared.records.Terminal.{Terminal}
use Rattle.leg_design_records.specs.declared.records.Wire.{Wire}
use Rattle.leg_design_records.specs.declared.records.Component.{Component}
use Rattle.leg_design_records.specs.Records.{DesignModel, PinModel, NetModel}
use Rattle.leg_design_records.specs.WellFormed.{IsWellFormed}
use Rattle.leg_rules.specs.declared.difference.Part.{Part}
use Rattle.leg_rules.specs.declared.difference.Section.{Section}
use Rattle.leg_rules.specs.declared.difference.Section.TheVariants.{Vias, Components, Pins, SpecialNets, Nets}
use Rattle.leg_rules.specs.declared.difference.Change.{Change}
use Rattle.leg_rules.specs.declared.difference.Change.TheVariants.{Shapes, Macro, Place, Status, NetName, Direction, Usage, Ports, Terminals, LostWires, MoreWires}
use Rattle.leg_rules.specs.declared.difference.Difference.{Difference}
use Rattle.leg_rules.specs.declared.difference.Difference.TheVariants.{Whole, Gone, Changed, Added}
use Rattle.leg_rules.specs.Compare.Sections.{names_of}
use Rattle.leg_rules.specs.Compare.Spelling.{spelled_terminals, spelled_wire, spelled_wires}
use Rattle.leg_design_records.specs.Names.{terminal_names}
use Rattle.leg_rules.specs.Compare.Differences.{DiffersInPart, DiffersAsVia, DiffersAsComponent, DiffersAsPin, DiffersAsNet, DifferAt, HasChanged, IsDifference}
use Rattle.leg_compare.proofs.TerminalSets.{same_if_equal}

-- no two entries of a section have one name
pub names_apart : (design : DesignModel) → IsWellFormed design → (section : Section) → AreApart (names_of section design)
names_apart design proper Vias = proper.vias.apart
names_apart design proper Components = proper.components.apart
names_apart design proper Pins = proper.pins.apart
names_apart design proper SpecialNets = proper.nets.special.apart
names_apart design proper Nets = proper.nets.nets.apart

pub record AreAlike (first second : DesignModel) : Type 0 where
  pub parts : (part : Part) → ¬ DiffersInPart part first second
  pub names : (section : Section) → names_of section second ≡ names_of section first
  pub apart : (section : Section) → AreApart (names_of section first)

-- a change of an entry, which is at one place in both designs
pub record IsChangeAt (first second : DesignModel) (d : Difference) : Type 0 where
  pub section : Section
  pub change : Change
  pub i : ℕ
  pub is : d ≡ Changed section change i
  pub changed : HasChanged section change first second i i

module _ (first second : DesignModel) (alike : AreAlike first second) where
  found : (section : Section) (i : ℕ) → i < length (names_of section first) → place_of (get_or (names_of section first) i []) (names_of section second) ≡ Some i
  found section i within = ap (place_of (get_or (names_of section first) i [])) (alike.names section) ∙ alike.apart section i within

  found_back : (section : Section) (i : ℕ) → i < length (names_of section second)
      → place_of (get_or (names_of section second) i []) (names_of section first) ≡ Some i
  found_back section i within =
      ap (λ l. place_of (get_or l i []) (names_of section first)) (alike.names section)
      ∙ alike.apart section i (subst (λ (l : List (List ℕ)). i < length l) (alike.names section) within)

  -- then each difference is such a change
  pub only_changes : (d : Difference) → IsDifference first second d → IsChangeAt first second d
  only_changes (Whole part) is = absurd (alike.parts part is)
  only_changes (Gone section i) is = absurd (let here = found section i is.there in let no : ⊥ = cc (here, is.gone) in no)
  only_changes (Changed section change i) is =
      let here = found section i is.one_name.there in
      let same : is.j ≡ i = cc (here, is.one_name.found) in
      record { section = section; change = change; i = i; is = refl; changed = subst (λ (j : ℕ). HasChanged section change first second i j) same is.changed }
  only_changes (Added section j) is = absurd (let here = found_back section j is.there in let no : ⊥ = cc (here, is.gone) in no)

-- nothing differs from itself
pub none_differ : {X : Type 0} (Differs : X → X → Type 0) (xs : List X) (i : ℕ) → ((x : X) → ¬ Differs x x) → ¬ DifferAt Differs xs xs i i
none_differ Differs xs i never h =
    let same : h.x ≡ h.y = same_Some h.x h.y (sym h.at_first ∙ h.at_second) in
    never h.y (subst (λ (x : _). Differs x h.y) same h.differ)

pub same_via : (change : Change) (x : ViaModel) → ¬ DiffersAsVia change x x
same_via Shapes x h = h refl
same_via Macro x h = absurd h
same_via Status x h = absurd h
same_via Place x h = absurd h
same_via NetName x h = absurd h
same_via Direction x h = absurd h
same_via Usage x h = absurd h
same_via Ports x h = absurd h
same_via Terminals x h = absurd h
same_via LostWires x h = absurd h
same_via MoreWires x h = absurd h

pub same_component : (change : Change) (x : Component) → ¬ DiffersAsComponent change x x
same_component Shapes x h = absurd h
same_component Macro x h = h refl
same_component Status x h = h.other refl
same_component Place x h = h refl
same_component NetName x h = absurd h
same_component Direction x h = absurd h
same_component Usage x h = absurd h
same_component Ports x h = absurd h
same_component Terminals x h = absurd h
same_component LostWires x h = absurd h
same_component MoreWires x h = absurd h

pub same_pin : (change : Change) (x : PinModel) → ¬ DiffersAsPin change x x
same_pin Shapes x h = absurd h
same_pin Macro x h = absurd h
same_pin Status x h = absurd h
same_pin Place x h = absurd h
same_pin NetName x h = h refl
same_pin Direction x h = h refl
same_pin Usage x h = h refl
same_pin Ports x h = h refl
same_pin Terminals x h = absurd h
same_pin LostWires x h = absurd h
same_pin MoreWires x h = absurd h

pub goes_on_itself : (first second : DesignModel) → ((w : Wire) → spelled_wire second w ≡ spelled_wire first w) → (wires : List Wire)
    → spelled_wires second wires ≡ spelled_wires first wires
goes_on_itself first second same [] = refl
goes_on_itself first second same (w ∷ wires) = λ i. same w i ∷ goes_on_itself first second same wires i

pub terminals_same : (first second : DesignModel) → ((t : Terminal) → terminal_names second t ≡ terminal_names first t) → (terminals : List Terminal)
    → spelled_terminals second terminals ≡ spelled_terminals first terminals
terminals_same first second same [] = refl
terminals_same first second same (t ∷ terminals) = λ i. same t i ∷ terminals_same first second same terminals i

module _ (first second : DesignModel) (terminals : (t : Terminal) → terminal_names second t ≡ terminal_names first t)
    (wires : (w : Wire) → spelled_wire second w ≡ spelled_wire first w) where
  pub same_net : (change : Change) (x : NetModel) → ¬ DiffersAsNet first second change x x
  same_net Shapes x h = absurd h
  same_net Macro x h = absurd h
  same_net Status x h = absurd h
  same_net Place x h = absurd h
  same_net NetName x h = absurd h
  same_net Direction x h = absurd h
  same_net Usage x h = h refl
  same_net Ports x h = absurd h
  same_net Terminals x h = h (same_if_equal _ _ (sym (terminals_same first second terminals x.terminals)))
  same_net LostWires x h = h (record { more = []; is = goes_on_itself first second wires x.wires ∙ sym (append-nil (spelled_wires first x.wires)) })
  same_net MoreWires x h = h.some (goes_on_itself first second wires x.wires)
