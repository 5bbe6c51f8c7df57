-- Components that are read have names of their own, macros of the library, and places where they should.
use Rattle.std.proofs.Common.{◌≡◌, ℕ, ◌<◌, true, false, ◌||◌, nat_le, List, [], ◌∷◌, ◌++◌, length, filter, Option, None, Some, is_some, codes, arith}
use Rattle.std.specs.List.{list_all}
use Rattle.std.proofs.lemmas.Bool.{or_parts}
use Rattle.std.proofs.lemmas.Bool.Decides.{nat_tests}
use Rattle.std.proofs.lemmas.List.{map_push, length_push}
use Rattle.std.proofs.lemmas.List.Elements.{All-push, All-nil}
use Rattle.leg_lemmas.proofs.Options.{none_is}
use Rattle.leg_lex.specs.Words.{Words, is_keyword, is_name}
use Rattle.leg_lex.specs.Statements.{at_most_one, clauses_of}
use Rattle.leg_lex.specs.NameLookup.{place_of}
use Rattle.leg_lex.proofs.NameLookup.{apart_push}
use Rattle.leg_lex.proofs.GivesAll.{named_gives_within}
use Rattle.leg_lib_records.specs.Records.{LibraryModel, MasterModel}
use Rattle.leg_design_records.specs.declared.limits.TheConstants.{ENTRY_LIMIT}
use Rattle.leg_design_records.specs.declared.records.Component.{Component}
use Rattle.leg_grammar.specs.Def.Guard.{when}
use Rattle.leg_grammar.specs.Def.Placement.{says_place}
use Rattle.leg_grammar.specs.Def.Clause.{is_clause}
use Rattle.leg_grammar.specs.Def.Component.{is_placement, placement_in, placement_in_any, placement_of, new_name_at, master_at, component_head, component_in, component_entry, components_at}
use Rattle.leg_design_records.specs.Records.{component_names}
use Rattle.leg_design_records.specs.WellFormedParts.{IsPlaced, IsComponent, AreComponents}
use Rattle.leg_design_common.proofs.Gives.{Gives, gives_none, gives_some, gives_bind, gives_skip, gives_if, unless_gives, name_gives, section_gives}
use Rattle.leg_design_common.proofs.ReadPlacement.{placed_gives}

placement_gives : (clause : Words) → Gives (λ said. IsPlaced said.0 said.1) (placement_in clause)
unfolding placement_in
placement_gives clause =
    gives_if (says_place clause)
    (gives_bind (placed_gives clause) (λ placed holds. gives_some _ holds))
    (gives_skip _ (λ unplaced. gives_some _ tt))

placement_in_any_gives : (clause : Option Words) → Gives (λ said. IsPlaced said.0 said.1) (placement_in_any clause)
placement_in_any_gives None = gives_some _ tt
placement_in_any_gives (Some clause) = placement_gives clause

placement_of_gives : (clauses : List Words) → Gives (λ said. IsPlaced said.0 said.1) (placement_of clauses)
unfolding placement_of
placement_of_gives clauses =
    gives_skip (when (list_all is_clause clauses)) (λ words.
    gives_skip (at_most_one (filter is_placement clauses)) (λ placement.
    placement_in_any_gives placement))

-- a name that isn't among these, and not PIN
record IsNewName (names : List (List ℕ)) (name : List ℕ) : Type 0 where
  named : is_name name ≡ true
  no_pin : is_keyword (codes "PIN") name ≡ false
  new : place_of name names ≡ None

new_name_gives : (names : List (List ℕ)) (words : Words) → Gives (λ said. IsNewName names said.0) (new_name_at names words)
unfolding new_name_at
new_name_gives names words =
    gives_bind (name_gives words) (λ name named.
    gives_bind (unless_gives (is_keyword (codes "PIN") name.0 || is_some (place_of name.0 names))) (λ free new.
    let parts = or_parts (is_keyword (codes "PIN") name.0) (is_some (place_of name.0 names)) new in
    gives_some name (record { named = named; no_pin = parts.0; new = none_is (place_of name.0 names) parts.1 })))

master_gives : (library : LibraryModel) (words : Words) → Gives (λ said. said.0 < length library.masters) (master_at library words)
unfolding master_at
master_gives library words =
    gives_skip _ (λ name.
    gives_bind (named_gives_within (λ (m : MasterModel). m.name) name.0 library.masters) (λ number less.
    gives_some _ less))

head_gives : (library : LibraryModel) (names : List (List ℕ)) (head : Words)
    → Gives (λ said. IsNewName names said.0 × (said.1 < length library.masters)) (component_head library names head)
unfolding component_head
head_gives library names head =
    gives_skip _ (λ dash.
    gives_bind (new_name_gives names dash.1) (λ name new.
    gives_bind (master_gives library name.1) (λ master less.
    gives_skip _ (λ end.
    gives_some _ (new, less)))))

pub component_gives : (library : LibraryModel) (names : List (List ℕ)) (parts : List Words)
    → Gives (λ component. IsComponent library component × (place_of component.name names ≡ None)) (component_in library names parts)
unfolding component_in
component_gives library names [] = gives_none
component_gives library names (head ∷ clauses) =
    gives_bind (head_gives library names head) (λ named holds.
    gives_bind (placement_of_gives clauses) (λ placement placed.
    gives_some _ (record { name = holds.0.named; no_pin = holds.0.no_pin; master = holds.1; placed = placed }, holds.0.new)))

with_component : (library : LibraryModel) (components : List Component) (component : Component) → AreComponents library components
    → nat_le ENTRY_LIMIT (length components) ≡ false → IsComponent library component → place_of component.name (component_names components) ≡ None
    → AreComponents library (components ++ component ∷ [])
with_component library components component before room holds new = record {
  each = All-push (IsComponent library) components component before.each holds;
  apart = rw (map_push (λ (c : Component). c.name) components component) (apart_push component.name (component_names components) new before.apart);
  few = rw (length_push components component) (grind (arith, nat_tests));
}

entry_gives : (library : LibraryModel) (components : List Component) (words : Words) → AreComponents library components
    → Gives (λ said. AreComponents library said.0) (component_entry library components words)
unfolding component_entry
entry_gives library components words before =
    gives_bind (unless_gives (nat_le ENTRY_LIMIT (length components))) (λ free room.
    gives_skip _ (λ statement.
    gives_bind (component_gives library (component_names components) (clauses_of statement.0)) (λ component holds.
    gives_some _ (with_component library components component before room holds.0 holds.1))))

pub no_components : (library : LibraryModel) → AreComponents library []
no_components library = record {
  each = All-nil (IsComponent library);
  apart = λ i less. absurd (omega arith);
  few = omega arith;
}

pub components_give : (library : LibraryModel) (words : Words) → Gives (λ said. AreComponents library said.0) (components_at library words)
unfolding components_at
components_give library words =
    section_gives (AreComponents library) (codes "COMPONENTS") (component_entry library) (entry_gives library) [] words (no_components library)
