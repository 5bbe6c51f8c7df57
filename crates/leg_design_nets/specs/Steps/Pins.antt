-- Pins of macros by their names, and components by their macros, as the index of a section has them.
use Rattle.std.specs.Prelude.{◌≡◌, ℕ, Bool, true, nat_eq, ◌<◌, List, [], ◌∷◌, length, map, get_or, Option, None, Some, is_some, slice_get}
use Rattle.std.specs.Borrow.{Bor}
use Rattle.std.specs.HashMap.{HashMap, get_by}
use Rattle.std.specs.List.{list_any}
use Rattle.std.specs.Str.{bytes_eq}
use Rattle.leg_lex.specs.Words.{◌>>=◌}
use Rattle.leg_lex.specs.NameLookup.{place_of}
use Rattle.leg_lib_records.specs.Records.{MasterModel}
use Rattle.leg_design_records.specs.declared.records.Component.{Component}
use Rattle.leg_design_records.specs.declared.records.Terminal.{Terminal}
use Rattle.leg_grammar.specs.Def.NetScope.{NetScopeModel}
use Rattle.leg_grammar.specs.Def.Terminal.{pin_of_component, with_pin}

abbrev pub is_in : ℕ → List ℕ → Bool
is_in number numbers = list_any (nat_eq number) numbers

-- the number of the pin of this name of the component of this number
abbrev pub pin_of_numbered : NetScopeModel → ℕ → List ℕ → Option ℕ
pin_of_numbered scope c name = slice_get scope.components c >>= λ component. pin_of_component scope.library component name

-- the pin of this name of each of the components of these numbers that has it
unfoldable pub pins_of_these : NetScopeModel → List ℕ → List ℕ → List Terminal
pins_of_these scope name [] = []
pins_of_these scope name (c ∷ numbers) = with_pin c (pin_of_numbered scope c name) (pins_of_these scope name numbers)

-- numbers under names: to each name belongs the list in the name's place
pub record NamedNumbers : Type 0 where
  pub names : List (List ℕ)
  pub lists : List (List ℕ)

abbrev pub list_at : List (List ℕ) → Option ℕ → List ℕ
list_at lists None = []
list_at lists (Some place) = get_or lists place []

-- the numbers under a name
abbrev pub numbers_under : NamedNumbers → List ℕ → List ℕ
numbers_under table name = list_at table.lists (place_of name table.names)

-- the place of the name by the table
abbrev pub place_in_table : {S : Type 0} → HashMap (Bor (List ℕ)) ℕ S → List ℕ → Option ℕ
place_in_table table name = get_by (λ key. bytes_eq name key.now) table

-- its place by the table of macro m
abbrev pub place_in_tables : {S : Type 0} → List (HashMap (Bor (List ℕ)) ℕ S) → ℕ → List ℕ → Option ℕ
place_in_tables tables m name = slice_get tables m >>= λ table. place_in_table table name

-- the names of the pins of a macro that has these components; of one that has none they aren't asked for
abbrev pub used_names : MasterModel → List ℕ → List (List ℕ)
used_names master [] = []
used_names master (c ∷ numbers) = map (λ p. p.name) master.pins

-- each component is in the list of its macro
abbrev pub AreListed : List Component → List (List ℕ) → Type 0
AreListed components lists =
    (c : ℕ) (component : Component) → slice_get components c ≡ Some component → component.master < length lists
    → is_in c (get_or lists component.master []) ≡ true

-- the place of each name among the pins of each macro; these are the lists of the macros' components
abbrev pub ArePinPlaces : List MasterModel → List (List ℕ) → (ℕ → List ℕ → Option ℕ) → Type 0
ArePinPlaces masters lists place =
    (m : ℕ) (name : List ℕ) → place m name ≡ (slice_get masters m >>= λ master. place_of name (used_names master (get_or lists m [])))

-- each macro that has a pin of a name is among the numbers under the name
abbrev pub AreUnder : List MasterModel → List (List ℕ) → (List ℕ → List ℕ) → Type 0
AreUnder masters lists under =
    (m : ℕ) (master : MasterModel) (name : List ℕ) → slice_get masters m ≡ Some master
    → is_some (place_of name (used_names master (get_or lists m []))) ≡ true → is_in m (under name) ≡ true

-- the components of each macro, the place of each name among its pins, and the macros under each name of a pin
pub record IsPinIndex (scope : NetScopeModel) (lists : List (List ℕ)) (place : ℕ → List ℕ → Option ℕ) (under : List ℕ → List ℕ) : Type 0 where
  pub long : length lists ≡ length scope.library.masters
  pub listed : AreListed scope.components lists
  pub places : ArePinPlaces scope.library.masters lists place
  pub having : AreUnder scope.library.masters lists under
