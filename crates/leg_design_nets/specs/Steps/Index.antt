-- Which entry of a section lists a terminal, by a table of terminals.
use Rattle.std.specs.Prelude.{◌≡◌, ◌↔◌, ℕ, true, List, [], map, get_or, Option, Some}
use Rattle.std.specs.HashMap.{HashMap, get_by}
use Rattle.leg_design_records.specs.declared.records.Terminal.{Terminal}
use Rattle.leg_design_records.specs.Terminals.{is_same_terminal, is_among}
use Rattle.leg_design_records.specs.Records.{NetModel, net_names, terminal_count, wire_count}

-- the number that the table has for the terminal
abbrev pub number_of : {S : Type 0} → HashMap Terminal ℕ S → Terminal → Option ℕ
number_of table terminal = get_by (is_same_terminal terminal) table

-- the terminals of each entry
abbrev pub lists_of : List NetModel → List (List Terminal)
lists_of nets = map (λ net. net.terminals) nets

-- A terminal has the number of the list that it is in: so it is in one list at most.
abbrev pub IsNameIndex : (Terminal → Option ℕ) → List (List Terminal) → Type 0
IsNameIndex number lists = (terminal : Terminal) (k : ℕ) → (number terminal ≡ Some k) ↔ (is_among terminal (get_or lists k []) ≡ true)

-- the whole entries of a section, and the terminals so far of the entry that is being read
pub record BegunNets : Type 0 where
  pub nets : List NetModel
  pub terminals : List Terminal

-- what is kept in addition to the entries gives their names, how many terminals and wires they have, and the entry of a
-- terminal
pub record IsIndexOf (nets : List NetModel) (lists : List (List Terminal)) (names : List (List ℕ)) (number : Terminal → Option ℕ)
    (terminals wires : ℕ) : Type 0 where
  pub named : names ≡ net_names nets
  pub indexed : IsNameIndex number lists
  pub listed : terminals ≡ terminal_count nets
  pub wired : wires ≡ wire_count nets
