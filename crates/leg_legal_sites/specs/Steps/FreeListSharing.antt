-- The free sites of rows by lists at the nodes of the tree: rows whose free sites are the same may have one list together (lefdef's own rule).
use Rattle.std.specs.Prelude.{ℕ, zero, suc, ◌+◌, ◌/◌, if◌then◌else◌, nat_eq, List, [], ◌∷◌, length, Option, None, get_or, unwrap_or}
use Rattle.std.specs.Option.{option_or}
use Rattle.leg_legal_sites.specs.declared.stretch.Stretch.{Stretch}
use Rattle.leg_legal_sites.specs.declared.row_keys.RowKey.{RowKey}

-- the list of the first node on the way down to this one that has a list; the way has no more nodes than this
abbrev pub list_within : ℕ → List (Option (List Stretch)) → ℕ → Option (List Stretch)
list_within zero lists node = None
list_within (suc most) lists zero = None
list_within (suc most) lists (suc n) = option_or (list_within most lists (suc n / 2)) (get_or lists (suc n) None)

-- the list of the first node on the way down from the first node to this one that has a list
abbrev pub list_of_node : List (Option (List Stretch)) → ℕ → Option (List Stretch)
list_of_node lists node = list_within node lists node

-- the place of the key of the row of this number
abbrev pub place_of_row : List RowKey → ℕ → ℕ
place_of_row [] number = 0
place_of_row (key ∷ keys) number = if nat_eq key.row number then 0 else suc (place_of_row keys number)

-- the free sites of the row of this number: those of the list for its leaf, and none where there is none
abbrev pub row_list : List RowKey → List (Option (List Stretch)) → ℕ → List Stretch
row_list order lists number = unwrap_or (list_of_node lists (length order + place_of_row order number)) []

-- those of as many rows as this, from the one of a number on
abbrev pub lists_from : List RowKey → List (Option (List Stretch)) → ℕ → ℕ → List (List Stretch)
lists_from order lists zero number = []
lists_from order lists (suc more) number = row_list order lists number ∷ lists_from order lists more (number + 1)

-- those of all rows
abbrev pub row_lists : List RowKey → List (Option (List Stretch)) → List (List Stretch)
row_lists order lists = lists_from order lists (length order) 0
