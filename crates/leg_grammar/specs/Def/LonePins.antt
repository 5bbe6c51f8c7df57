-- Pins of the design that no net lists (lefdef's own rule; LEF/DEF 5.8, "Pins", on `+ NET`).
use Rattle.std.specs.Prelude.{ℕ, suc, Bool, ◌||◌, if◌then◌else◌, List, [], ◌∷◌, ◌++◌, Option, None, Some, slice_get, slice_set}
use Rattle.std.specs.List.{list_any}
use Rattle.leg_lex.specs.NameLookup.{place_of}
use Rattle.leg_design_records.specs.declared.records.Terminal.{Terminal}
use Rattle.leg_design_records.specs.declared.records.Terminal.TheVariants.{Pin}
use Rattle.leg_design_records.specs.Terminals.{is_among}
use Rattle.leg_design_records.specs.Records.{PinModel, NetModel, net_names}

-- the entries of NETS and those of SPECIALNETS
pub record NetLists : Type 0 where
  pub nets : List NetModel
  pub special : List NetModel

-- some entry lists the terminal
abbrev pub is_listed : Terminal → List NetModel → Bool
is_listed terminal nets = list_any (λ net. is_among terminal net.terminals) nets

-- the entry of this number lists one more terminal
abbrev pub with_terminal : Terminal → ℕ → List NetModel → List NetModel
with_terminal terminal number nets = by (slice_get nets number) where
  by : Option NetModel → List NetModel
  by None = nets
  by (Some net) = slice_set nets number (record net { terminals = net.terminals ++ terminal ∷ [] })

-- a lone pin goes to the NETS entry of the net that it names; without one, to the SPECIALNETS entry
abbrev pub to_entry : NetLists → ℕ → Option ℕ → Option ℕ → NetLists
to_entry lists p (Some k) in_special = record lists { nets = with_terminal (Pin p) k lists.nets }
to_entry lists p None (Some k) = record lists { special = with_terminal (Pin p) k lists.special }
to_entry lists p None None = lists

abbrev pub to_named : NetLists → ℕ → Option (List ℕ) → NetLists
to_named lists p None = lists
to_named lists p (Some name) =
    to_entry lists p (place_of name (net_names lists.nets)) (place_of name (net_names lists.special))

-- one more pin of the design, by its number
unfoldable pub with_lone_pin : NetLists → ℕ → PinModel → NetLists
with_lone_pin lists p pin =
    if is_listed (Pin p) lists.nets || is_listed (Pin p) lists.special then lists
    else to_named lists p pin.net_name

-- the pins in file order, the first being of this number
unfoldable pub with_lone_pins : NetLists → ℕ → List PinModel → NetLists
with_lone_pins lists p [] = lists
with_lone_pins lists p (pin ∷ pins) = with_lone_pins (with_lone_pin lists p pin) (suc p) pins
