-- The entry of a component is read as the component, and the section as all of them.
use Rattle.std.proofs.Common.{◌≡◌, ℕ, ◌<◌, ◌≤◌, true, false, List, [], ◌∷◌, ◌++◌, length, get_or, None, Some, codes, IsTrue, refl, subst, arith}
use Rattle.std.specs.List.{list_all, flat_map}
use Rattle.leg_lemmas.proofs.Places.{there_is}
use Rattle.leg_lex.specs.Words.{Words, next_at, mark_at, name_at, nothing_at, is_name}
use Rattle.leg_lex.specs.NameLookup.{place_of, AreApart}
use Rattle.leg_lex.specs.Statements.{at_end}
use Rattle.leg_output.specs.Words.{stays_one, line, is_printable}
use Rattle.leg_print_words.proofs.LeadingBlanks.{first_passes, others_pass}
use Rattle.leg_lib_records.specs.Records.{MasterModel, master_names}
use Rattle.leg_lib_records.specs.Sound.{IsSound}
use Rattle.leg_design_records.specs.declared.limits.TheConstants.{ENTRY_LIMIT}
use Rattle.leg_design_records.specs.declared.records.Component.{Component}
use Rattle.leg_design_records.specs.Records.{DesignModel, component_names}
use Rattle.leg_design_records.specs.WellFormedParts.{IsComponent, AreComponents}
use Rattle.leg_grammar.specs.Def.Component.{new_name_at, master_at, component_head, component_in, component_entry, components_at}
use Rattle.leg_design_floorplan.proofs.Components.{entry_shortens}
use Rattle.leg_lex.specs.declared.limits.TheConstants.{NUMBER_LIMIT}
use Rattle.leg_print_words.proofs.Lines.{Lines, lines_of_words}
use Rattle.leg_output.specs.Text.Whole.{components_text}
use Rattle.leg_print_laws.proofs.Tests.{room_is}
use Rattle.leg_print_laws.proofs.Sections.{section_words, section_again, section_lines}
use Rattle.leg_output.specs.Names.{master_name}
use Rattle.leg_output.specs.Text.Clauses.{placement_clause}
use Rattle.leg_output.specs.Text.Components.{component_said, component_words}
use Rattle.leg_print_laws.specs.PrintedNames.{StayOne, component_entry_names}
use Rattle.leg_print_laws.specs.Forms.{DenotesForm}
use Rattle.leg_print_laws.proofs.FreeWords.{AreInside, AreFree, free_literal, free_name, free_nil, free_cons, inside_cons, inside_append}
use Rattle.leg_print_laws.proofs.Again.{said_again, clause_again}
use Rattle.leg_print_laws.proofs.NumberedNames.{found, name_is, not_before, middle, fewer_before, each_passes}
use Rattle.leg_print_laws.proofs.Placements.{placement_again, placement_free}
use Rattle.leg_print_laws.proofs.PrintableWords.{said_printable, line_says}

module _ (design : DesignModel) (sound : IsSound design.library) (component : Component) (is : IsComponent design.library component) where
  master : (m : MasterModel) × (IsTrue (is_name (master_name design component.master)))
      × (place_of (master_name design component.master) (master_names design.library) ≡ Some component.master)
  master =
      let there = there_is design.library.masters component.master is.master in (
        there.0,
        rw (there.1) (name_is (λ (m : MasterModel). m.name) design.library.masters component.master there.0 there.1 sound.names.masters.each),
        rw (there.1) (found (λ (m : MasterModel). m.name) design.library.masters component.master there.0 there.1 sound.names.masters.apart),
      )

  component_in_again : (names : List (List ℕ)) → place_of component.name names ≡ None
      → component_in design.library names ((codes "-" ∷ component.name ∷ master_name design component.master ∷ []) ∷ placement_clause component.status
      component.place ∷ []) ≡ Some component
  unfolding component_in component_head new_name_at master_at mark_at name_at nothing_at next_at
  component_in_again names new =
      rw (is.name, is.no_pin, new, master.1, master.2, placement_again component.status component.place is.placed) refl

  module _ (one : StayOne (component_entry_names design component)) where
    head_free : AreFree (codes "-" ∷ component.name ∷ master_name design component.master ∷ [])
    head_free =
        free_cons (free_literal (codes "-") refl refl refl)
        (free_cons (free_name component.name is.name (first_passes stays_one component.name (master_name design component.master ∷ []) one))
        (free_cons (free_name (master_name design component.master) master.1
        (first_passes stays_one (master_name design component.master) []
        (others_pass stays_one component.name (master_name design component.master ∷ []) one))) free_nil))

    clause_free : AreFree (placement_clause component.status component.place)
    clause_free = placement_free component.status component.place is.placed

    component_inside : AreInside (component_said design component)
    component_inside = inside_append head_free.inside (inside_cons (record { printable = refl; semicolon = refl }) clause_free.inside)

    pub component_again : (front : List Component) → length front < ENTRY_LIMIT → place_of component.name (component_names front) ≡ None → (rest : Words)
        → component_entry design.library front (component_words design component ++ rest) ≡ Some (front ++ component ∷ [], rest)
    unfolding component_entry
    component_again front few new rest =
        rw (
          room_is (length front) ENTRY_LIMIT few,
          said_again (component_said design component) rest component_inside,
          clause_again (codes "-" ∷ component.name ∷ master_name design component.master ∷ [])
              (placement_clause component.status component.place) head_free.plus clause_free.plus,
          component_in_again (component_names front) new,
        ) refl

    pub component_printable : list_all is_printable (component_words design component) ≡ true
    component_printable = said_printable component_inside

    pub component_line : (front : List Component) → length front < ENTRY_LIMIT → place_of component.name (component_names front) ≡ None
        → DenotesForm (component_entry design.library front) (line (component_words design component)) (front ++ component ∷ [])
    component_line front few new =
        line_says (component_entry design.library front) (component_words design component) (front ++ component ∷ []) component_printable
        (component_again front few new)

-- all of them
pub component_goes : (design : DesignModel) (component : Component) (rest : Words) → at_end (component_words design component ++ rest) ≡ false
component_goes design component rest = refl

pub components_again : (design : DesignModel) (component : Component) (components : List Component) → IsSound design.library
    → AreComponents design.library (component ∷ components)
    → StayOne (flat_map (component_entry_names design) (component ∷ components)) → (rest : Words)
    → components_at design.library (section_words (codes "COMPONENTS") (component_words design) (component ∷ components) ++ rest) ≡ Some
    (component ∷ components, rest)
unfolding components_at
components_again design component components sound are one rest =
    section_again (codes "COMPONENTS") (component_entry design.library) (component_words design) (λ entries. entries) refl
    (entry_shortens design.library) component components few
    (record {
      goes = component_goes design;
      read = λ before x after is.
          component_again design sound x (middle (IsComponent design.library) (component ∷ components) before x after is are.each)
          (middle (λ c. StayOne (component_entry_names design c)) (component ∷ components) before x after is
          (each_passes stays_one (component_entry_names design) (component ∷ components) one))
          before (less before x after is) (not_before (λ (c : Component). c.name) before x after (subst (λ cs. AreApart (component_names cs)) is are.apart));
    }) rest where
      few : length (component ∷ components) ≤ NUMBER_LIMIT
      few = omega (arith, are.few)

      less : (before : List Component) (x : Component) (after : List Component) → component ∷ components ≡ before ++ (x ∷ after) → length before < ENTRY_LIMIT
      less before x after is = omega (arith, fewer_before (component ∷ components) before x after is, are.few)

-- the lines of the section have its words
pub components_lines : (design : DesignModel) (components : List Component) → IsSound design.library → AreComponents design.library components
    → StayOne (flat_map (component_entry_names design) components)
    → Lines (components_text design components) (section_words (codes "COMPONENTS") (component_words design) components)
components_lines design components sound are one =
    section_lines (codes "COMPONENTS") (λ component. line (component_words design component)) (component_words design) components
    (free_literal (codes "COMPONENTS") refl refl refl)
    (omega (arith, are.few))
    (λ k d less. lines_of_words (component_words design (get_or components k d)) (component_printable design sound (get_or components k d) (are.each k d less)
    (each_passes stays_one (component_entry_names design) components one k d less)))
