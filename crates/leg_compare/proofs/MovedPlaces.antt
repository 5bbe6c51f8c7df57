-- What differs where movable components have moved.
use Rattle.std.proofs.Common.{◌≡◌, ℕ, ◌<◌, ◌≤◌, ◌⊎◌, inl, inr, List, length, get_or, Option, None, Some, slice_get, refl, sym, ap, ◌∙◌, subst, arith}
use Rattle.std.proofs.lemmas.Option.{same_Some, slice_get-get_or, slice_get_past}
use Rattle.std.proofs.lemmas.Bool.{cases_lt}
use Rattle.leg_lex.specs.Words.{◌>>=◌}
use Rattle.leg_lib_records.specs.Records.{MasterPinModel}
use Rattle.leg_design_records.specs.declared.records.Component.{Component}
use Rattle.leg_design_records.specs.declared.records.Terminal.{Terminal}
use Rattle.leg_design_records.specs.declared.records.Terminal.TheVariants.{Comp, Pin}
use Rattle.leg_design_records.specs.declared.records.Wire.{Wire}
use Rattle.leg_design_records.specs.declared.records.Wire.TheVariants.{Segment, ViaAt, Patch}
use Rattle.leg_design_records.specs.Movable.{MayMove, IsMovable}
use Rattle.leg_design_records.specs.Records.{DesignModel, component_names}
use Rattle.leg_design_records.specs.WellFormed.{IsWellFormed}
use Rattle.leg_design_records.proofs.MovableOrNot.{movable_or_not}
use Rattle.leg_rules.specs.Legalise.SameButForPlaces.{IsPlacedAnew, IsSameButForPlaces}
use Rattle.leg_rules.specs.declared.difference.Part.{Part}
use Rattle.leg_rules.specs.declared.difference.Part.TheVariants.{Name, Divider, BusBits, Die, Rows, Tracks, Blockages}
use Rattle.leg_rules.specs.declared.difference.Section.{Section}
use Rattle.leg_rules.specs.declared.difference.Section.TheVariants.{Vias, Components, Pins, SpecialNets, Nets}
use Rattle.leg_rules.specs.declared.difference.Change.{Change}
use Rattle.leg_rules.specs.declared.difference.Change.TheVariants.{Shapes, Macro, Place, Status as OtherStatus, NetName, Direction, Usage, Ports, Terminals, LostWires, MoreWires}
use Rattle.leg_rules.specs.declared.difference.Difference.{Difference}
use Rattle.leg_rules.specs.declared.difference.Difference.TheVariants.{Changed}
use Rattle.leg_rules.specs.Compare.Sections.{names_of}
use Rattle.leg_rules.specs.Compare.Spelling.{spelled_wire}
use Rattle.leg_design_records.specs.Names.{name_by, terminal_names}
use Rattle.leg_rules.specs.Compare.Differences.{DiffersInPart, DiffersAsVia, DiffersAsComponent, DiffersAsPin, DiffersAsNet, DifferAt, HasChanged, IsDifference}
use Rattle.leg_rules.specs.Compare.Verdicts.{IsMove}
use Rattle.leg_compare.proofs.ListsAlike.{all_alike}
use Rattle.leg_compare.proofs.Alike.{names_apart, AreAlike, IsChangeAt, only_changes, none_differ, same_via, same_component, same_pin, same_net}

-- the component stays as it is, or it is movable and has another place
abbrev pub IsKeptOrMoved : DesignModel → ℕ → Component → Component → Type 0
IsKeptOrMoved before i old new = (new ≡ old) ⊎ (IsMovable before i × IsPlacedAnew old new)

module _ (before : DesignModel) (proper : IsWellFormed before) (components : List Component) (count : length components ≡ length before.components)
    (kept : (i : ℕ) (old new : Component) → slice_get before.components i ≡ Some old → slice_get components i ≡ Some new → IsKeptOrMoved before i old new) where
  kept_at : (i : ℕ) (d e : Component) → i < length before.components → IsKeptOrMoved before i (get_or before.components i d) (get_or components i e)
  kept_at i d e within =
      kept i (get_or before.components i d) (get_or components i e) (slice_get-get_or before.components i d within)
      (slice_get-get_or components i e (omega arith))

  -- names and macros stay
  same_name_of : (i : ℕ) (old new : Component) → IsKeptOrMoved before i old new → new.name ≡ old.name
  same_name_of i old new (inl same) = ap (λ (c : Component). c.name) same
  same_name_of i old new (inr moved) = ap (λ (c : Component). c.name) moved.1.is

  same_master_of : (i : ℕ) (old new : Component) → IsKeptOrMoved before i old new → new.master ≡ old.master
  same_master_of i old new (inl same) = ap (λ (c : Component). c.master) same
  same_master_of i old new (inr moved) = ap (λ (c : Component). c.master) moved.1.is

  pub same_component_names : component_names components ≡ component_names before.components
  same_component_names =
      all_alike (λ (c : Component). c.name) (λ (c : Component). c.name) components before.components count
      (λ k d e within. same_name_of k (get_or before.components k e) (get_or components k d) (kept_at k e d (omega arith)))

  -- so terminals are spelled as before
  abbrev pin_name : Option Component → ℕ → List ℕ
  pin_name component k = name_by (λ (pin : MasterPinModel). pin.name)
      (component >>= λ c. slice_get before.library.masters c.master >>= λ master. slice_get master.pins k)

  owner : (c k : ℕ) (old new : Option Component) → slice_get before.components c ≡ old → slice_get components c ≡ new
      → (name_by (λ (m : Component). m.name) new ≡ name_by (λ (m : Component). m.name) old)
      × (pin_name new k ≡ pin_name old k)
  owner c k None None there here = (refl, refl)
  owner c k None (Some new) there here = absurd (past (cases_lt c (length components))) where
    past : (c < length components) ⊎ (length components ≤ c) → ⊥
    past (inl within) = let some = slice_get-get_or before.components c new (omega arith) in let no : ⊥ = cc in no
    past (inr beyond) = let none = slice_get_past components c beyond in let no : ⊥ = cc in no
  owner c k (Some old) None there here = absurd (past (cases_lt c (length components))) where
    past : (c < length components) ⊎ (length components ≤ c) → ⊥
    past (inl within) = let some = slice_get-get_or components c old within in let no : ⊥ = cc in no
    past (inr beyond) = let none = slice_get_past before.components c (omega arith) in let no : ⊥ = cc in no
  owner c k (Some old) (Some new) there here =
      let is = kept c old new there here in
      (same_name_of c old new is, ap (λ m. pin_of m k) (same_master_of c old new is)) where
        pin_of : ℕ → ℕ → List ℕ
        pin_of m n = pin_name (Some (record old { master = m })) n

  pub terminal_same : (t : Terminal) → terminal_names (record before { components = components }) t ≡ terminal_names before t
  terminal_same (Comp c k) =
      let same = owner c k (slice_get before.components c) (slice_get components c) refl refl in
      λ i. (same.0 i, same.1 i)
  terminal_same (Pin p) = refl

  wire_same : (w : Wire) → spelled_wire (record before { components = components }) w ≡ spelled_wire before w
  wire_same (Segment layer from to width ext_from ext_to) = refl
  wire_same (ViaAt number at) = refl
  wire_same (Patch layer at rect) = refl

  alike : AreAlike before (record before { components = components })
  alike = record { parts = part_same; names = names_same; apart = names_apart before proper } where
    part_same : (part : Part) → ¬ DiffersInPart part before (record before { components = components })
    part_same Name h = h refl
    part_same Divider h = h refl
    part_same BusBits h = h refl
    part_same Die h = h refl
    part_same Rows h = h refl
    part_same Tracks h = h refl
    part_same Blockages h = h refl

    names_same : (section : Section) → names_of section (record before { components = components }) ≡ names_of section before
    names_same Vias = refl
    names_same Components = same_component_names
    names_same Pins = refl
    names_same SpecialNets = refl
    names_same Nets = refl

  status_of : (i : ℕ) (old : Component) → slice_get before.components i ≡ Some old → IsMovable before i → MayMove old.status
  status_of i old there m =
      let same : m.component ≡ old = same_Some m.component old (sym m.there ∙ there) in
      subst (λ (c : Component). MayMove c.status) same m.status

  -- a component that is movable has another place, and nothing else of it differs
  move_of : (i : ℕ) (change : Change) (old new : Component) → slice_get before.components i ≡ Some old → IsKeptOrMoved before i old new
      → DiffersAsComponent change old new → (change ≡ Place) × IsMovable before i
  move_of i change old new there (inl same) differ = absurd (same_component change old (subst (λ (c : Component). DiffersAsComponent change old c) same differ))
  move_of i Shapes old new there (inr moved) differ = absurd differ
  move_of i Macro old new there (inr moved) differ = absurd (differ (sym (ap (λ (c : Component). c.master) moved.1.is)))
  move_of i OtherStatus old new there (inr moved) differ =
      absurd (differ.fixed (status_of i old there moved.0, subst MayMove (sym (ap (λ (c : Component). c.status) moved.1.is)) tt))
  move_of i Place old new there (inr moved) differ = (refl, moved.0)
  move_of i NetName old new there (inr moved) differ = absurd differ
  move_of i Direction old new there (inr moved) differ = absurd differ
  move_of i Usage old new there (inr moved) differ = absurd differ
  move_of i Ports old new there (inr moved) differ = absurd differ
  move_of i Terminals old new there (inr moved) differ = absurd differ
  move_of i LostWires old new there (inr moved) differ = absurd differ
  move_of i MoreWires old new there (inr moved) differ = absurd differ

  pub move_at : (change : Change) (i : ℕ) → DifferAt (DiffersAsComponent change) before.components components i i → (change ≡ Place) × IsMovable before i
  move_at change i h = move_of i change h.x h.y h.at_first (kept i h.x h.y h.at_first h.at_second) h.differ

  -- every difference is a move
  pub only_moves : (d : Difference) → IsDifference before (record before { components = components }) d → IsMove before d
  only_moves d is = by (only_changes before (record before { components = components }) alike d is) where
    changed : (section : Section) (change : Change) (i : ℕ) → d ≡ Changed section change i
        → HasChanged section change before (record before { components = components }) i i → IsMove before d
    changed Vias change i is_d h = absurd (none_differ (DiffersAsVia change) before.vias i (same_via change) h)
    changed Components change i is_d h =
        let move = move_at change i h in
        record { i = i; is = is_d ∙ ap (λ c. Changed Components c i) move.0; movable = move.1 }
    changed Pins change i is_d h = absurd (none_differ (DiffersAsPin change) before.pins i (same_pin change) h)
    changed SpecialNets change i is_d h =
        absurd (none_differ (DiffersAsNet before (record before { components = components }) change) before.special i
        (same_net before (record before { components = components }) terminal_same wire_same change) h)
    changed Nets change i is_d h =
        absurd (none_differ (DiffersAsNet before (record before { components = components }) change) before.nets i
        (same_net before (record before { components = components }) terminal_same wire_same change) h)

    by : IsChangeAt before (record before { components = components }) d → IsMove before d
    by c = changed c.section c.change c.i c.is c.changed

-- each component of a design that is the same but for places stays as it is, or is movable and has another place
pub kept_or_moved : (before after : DesignModel) → IsSameButForPlaces before after → (i : ℕ) (old new : Component) → slice_get before.components i ≡ Some old
    → slice_get after.components i ≡ Some new → IsKeptOrMoved before i old new
kept_or_moved before after same i old new there here =
    elim (movable_or_not before i) [
      | inl movable ↦ inr (movable, same.moves i old new movable there here)
      | inr stays ↦ inl (same_Some new old (sym here ∙ same.stays i stays ∙ there))
    ]

-- of designs that are the same but for places, movable components have other places, and nothing else differs
pub places_differ : (before after : DesignModel) → IsWellFormed before → IsSameButForPlaces before after → (d : Difference) → IsDifference before after d
    → IsMove before d
places_differ before after proper same d is =
    only_moves before proper after.components same.count (kept_or_moved before after same) d
    (subst (λ (design : DesignModel). IsDifference before design d) same.rest is)
