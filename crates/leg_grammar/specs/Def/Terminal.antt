-- Terminals of nets (LEF/DEF 5.8, "Nets", "Special Nets"; that a terminal is in at most one net, and what `*` stands
-- for, are lefdef's own rules).
use Rattle.std.specs.Prelude.{ℕ, suc, Bool, not, ◌&&◌, if◌then◌else◌, List, [], ◌∷◌, ◌++◌, map, Option, None, Some, codes, slice_get}
use Rattle.std.specs.List.{list_any}
use Rattle.std.specs.Str.{bytes_eq}
use Rattle.leg_lex.specs.Words.{Words, ◌>>=◌, is_keyword, is_at, keyword_at, mark_at, name_at}
use Rattle.leg_lex.specs.Until.{over}
use Rattle.leg_lex.specs.NameLookup.{place_of}
use Rattle.leg_lib_records.specs.Records.{LibraryModel}
use Rattle.leg_design_records.specs.declared.records.Component.{Component}
use Rattle.leg_design_records.specs.declared.records.Terminal.{Terminal}
use Rattle.leg_design_records.specs.declared.records.Terminal.TheVariants.{Comp, Pin}
use Rattle.leg_design_records.specs.Terminals.{is_among}
use Rattle.leg_grammar.specs.Def.NetScope.{NetScopeModel}
use Rattle.leg_design_records.specs.Records.{NetModel, component_names, pin_names}

-- the number of the pin of this name of the component's macro
abbrev pub pin_of_component : LibraryModel → Component → List ℕ → Option ℕ
pin_of_component library component name =
    slice_get library.masters component.master >>= λ master. place_of name (map (λ p. p.name) master.pins)

-- component c has such a pin, or none
abbrev pub with_pin : ℕ → Option ℕ → List Terminal → List Terminal
with_pin c None terminals = terminals
with_pin c (Some k) terminals = Comp c k ∷ terminals

-- the pin of this name of each component that has it, in order; the first component is of this number
unfoldable pub pins_of_all : LibraryModel → List ℕ → ℕ → List Component → List Terminal
pins_of_all library name c [] = []
pins_of_all library name c (component ∷ components) =
    with_pin c (pin_of_component library component name) (pins_of_all library name (suc c) components)

-- the component of this name, with its pin of this name
abbrev pub component_terminal : NetScopeModel → List ℕ → List ℕ → Option Terminal
component_terminal scope of_component name = do
  c ← place_of of_component (component_names scope.components)
  component ← slice_get scope.components c
  k ← pin_of_component scope.library component name
  Some (Comp c k)

-- the pin of the design of this name
abbrev pub pin_terminal : NetScopeModel → List ℕ → Option Terminal
pin_terminal scope name = place_of name (pin_names scope.pins) >>= λ p. Some (Pin p)

-- NAME NAME, where PIN marks a pin of the design
unfoldable pub one_terminal_at : NetScopeModel → Words → Option (List Terminal × Words)
one_terminal_at scope words = do
  of_component ← name_at words
  name ← name_at of_component.1
  terminal ← if is_keyword (codes "PIN") of_component.0 then pin_terminal scope name.0
      else component_terminal scope of_component.0 name.0
  Some (terminal ∷ [], name.1)

-- * NAME: the pins of this name of all components
unfoldable pub all_terminals_at : NetScopeModel → Words → Option (List Terminal × Words)
all_terminals_at scope words = do
  star ← mark_at 42 words
  name ← name_at star.1
  Some (pins_of_all scope.library name.0 0 scope.components, name.1)

-- + SYNTHESIZED, if it is written (43 is the plus)
unfoldable pub past_synthesized : Words → Option (Unit {0} × Words)
past_synthesized words =
    if is_at (codes "+") words then (do
      plus ← mark_at 43 words
      keyword_at (codes "SYNTHESIZED") plus.1)
    else Some (tt, words)

-- ( component pin ), where `*` stands for all components in SPECIALNETS only: 40 and 41 are the parentheses
unfoldable pub terminals_at : NetScopeModel → Bool → Words → Option (List Terminal × Words)
terminals_at scope special words = do
  open_ ← mark_at 40 words
  terminals ← if special && is_at (codes "*") open_.1 then all_terminals_at scope open_.1
      else one_terminal_at scope open_.1
  past ← past_synthesized terminals.1
  close ← mark_at 41 past.1
  Some (terminals.0, close.1)

-- the terminal is listed by an entry of another name
abbrev pub is_of_other_net : List ℕ → Terminal → List NetModel → Bool
is_of_other_net name terminal nets =
    list_any (λ net. not (bytes_eq net.name name) && is_among terminal net.terminals) nets

-- One more terminal of the net of this name, in addition to these entries: it counts once in its entry, and is in no other
-- net.
unfoldable pub add_terminal : List ℕ → List NetModel → List Terminal → Terminal → Option (List Terminal)
add_terminal name nets terminals terminal =
    if is_of_other_net name terminal nets then None
    else (if is_among terminal terminals then Some terminals else Some (terminals ++ terminal ∷ []))

-- what one more pair of parentheses adds to the terminals
unfoldable pub terminal_form : NetScopeModel → Bool → List ℕ → List NetModel → List Terminal → Words → Option (List Terminal × Words)
terminal_form scope special name nets terminals words = do
  said ← terminals_at scope special words
  more ← over (add_terminal name nets) terminals said.0
  Some (more, said.1)

abbrev pub at_no_terminal : Words → Bool
at_no_terminal words = not (is_at (codes "(") words)
