-- Components (LEF/DEF 5.8, "Components"; how many there may be is lefdef's own rule).
use Rattle.std.specs.Prelude.{ℕ, Bool, ◌||◌, nat_le, if◌then◌else◌, List, [], ◌∷◌, ◌++◌, length, filter, Option, None, Some, is_some, codes}
use Rattle.std.specs.List.{list_all}
use Rattle.leg_lex.specs.Words.{Words, ◌>>=◌, is_keyword, is_at, keyword_at, mark_at, name_at, nothing_at}
use Rattle.leg_lex.specs.Statements.{statement_at, at_most_one, clauses_of}
use Rattle.leg_lex.specs.NameLookup.{place_of}
use Rattle.leg_geom.specs.declared.place.Place.{Place}
use Rattle.leg_lib_records.specs.Records.{LibraryModel, master_names}
use Rattle.leg_design_records.specs.declared.limits.TheConstants.{ENTRY_LIMIT}
use Rattle.leg_design_records.specs.declared.records.Status.{Status}
use Rattle.leg_design_records.specs.declared.records.Status.TheVariants.{Unplaced}
use Rattle.leg_design_records.specs.declared.records.Component.{Component}
use Rattle.leg_grammar.specs.Def.Guard.{when, unless}
use Rattle.leg_grammar.specs.Def.Placement.{says_place, placed_in}
use Rattle.leg_grammar.specs.Def.Clause.{is_clause}
use Rattle.leg_grammar.specs.Def.Section.{section_at}
use Rattle.leg_design_records.specs.Records.{component_names}

-- whether a clause gives the place of the component
abbrev pub is_placement : Words → Bool
is_placement clause = says_place clause || is_at (codes "UNPLACED") clause

-- UNPLACED, and nothing after it
unfoldable pub unplaced_in : Words → Option (Unit {0})
unplaced_in clause = do
  start ← keyword_at (codes "UNPLACED") clause
  nothing_at start.1

-- the status and the place that the clause gives
unfoldable pub placement_in : Words → Option (Status × Option Place)
placement_in clause =
    if says_place clause then (placed_in clause >>= λ placed. Some (placed.0, Some placed.1))
    else (unplaced_in clause >>= λ _. Some (Unplaced, None))

-- without such a clause the component is unplaced
abbrev pub placement_in_any : Option Words → Option (Status × Option Place)
placement_in_any None = Some (Unplaced, None)
placement_in_any (Some clause) = placement_in clause

-- at most one clause gives the place of the component; the others are read past
unfoldable pub placement_of : List Words → Option (Status × Option Place)
placement_of clauses = do
  words ← when (list_all is_clause clauses)
  placement ← at_most_one (filter is_placement clauses)
  placement_in_any placement

-- a new name, and not PIN, by which nets mark the pins of the design
unfoldable pub new_name_at : List (List ℕ) → Words → Option (List ℕ × Words)
new_name_at names words = do
  name ← name_at words
  free ← unless (is_keyword (codes "PIN") name.0 || is_some (place_of name.0 names))
  Some name

-- a macro of the library, by its number
unfoldable pub master_at : LibraryModel → Words → Option (ℕ × Words)
master_at library words = do
  name ← name_at words
  number ← place_of name.0 (master_names library)
  Some (number, name.1)

-- - NAME macro (45 is the dash)
unfoldable pub component_head : LibraryModel → List (List ℕ) → Words → Option (List ℕ × ℕ)
component_head library names head = do
  dash ← mark_at 45 head
  name ← new_name_at names dash.1
  master ← master_at library name.1
  end ← nothing_at master.1
  Some (name.0, master.0)

-- the entry's head and its clauses, where these names came before
unfoldable pub component_in : LibraryModel → List (List ℕ) → List Words → Option Component
component_in library names [] = None
component_in library names (head ∷ clauses) = do
  named ← component_head library names head
  placement ← placement_of clauses
  Some (record { name = named.0; master = named.1; status = placement.0; place = placement.1 })

-- one more entry
unfoldable pub component_entry : LibraryModel → List Component → Words → Option (List Component × Words)
component_entry library components words = do
  room ← unless (nat_le ENTRY_LIMIT (length components))
  statement ← statement_at words
  component ← component_in library (component_names components) (clauses_of statement.0)
  Some (components ++ component ∷ [], statement.1)

-- COMPONENTS number ; entries END COMPONENTS
unfoldable pub components_at : LibraryModel → Words → Option (List Component × Words)
components_at library words = section_at (codes "COMPONENTS") (component_entry library) [] words
