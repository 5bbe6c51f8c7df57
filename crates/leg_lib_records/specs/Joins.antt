-- Good vias, which join two routing layers (lefdef's own rule).
use Rattle.std.specs.Prelude.{ℕ, ◌+◌, Bool, true, false, not, ◌&&◌, ◌||◌, ◌==◌, nat_lt, List, [], ◌∷◌, codes, Option, None, Some, slice_get}
use Rattle.std.specs.List.{list_any, list_all, slice_range}
use Rattle.leg_lex.specs.Words.{is_keyword}
use Rattle.leg_lib_records.specs.declared.joins.LayerUse.{LayerUse}
use Rattle.leg_lib_records.specs.declared.joins.LayerUse.TheVariants.{Wires, Cuts, Neither}
use Rattle.leg_lib_records.specs.declared.joins.ViaPart.{ViaPart}

-- the words that mean something else in wiring, in capitals or small letters
abbrev pub wiring_words : List (List ℕ)
wiring_words =
    codes "NEW" ∷ codes "RECT" ∷ codes "TAPER" ∷ codes "TAPERRULE" ∷ codes "STYLE" ∷ codes "MASK"
    ∷ codes "VIRTUAL" ∷ codes "DO" ∷ codes "N" ∷ codes "S" ∷ codes "W" ∷ codes "E" ∷ codes "FN" ∷ codes "FS"
    ∷ codes "FW" ∷ codes "FE" ∷ []

abbrev pub is_wiring_word : List ℕ → Bool
is_wiring_word name = list_any (λ word. is_keyword word name) wiring_words

abbrev pub has_wires : LayerUse → Bool
has_wires Wires = true
has_wires Cuts = false
has_wires Neither = false

abbrev pub has_cuts : LayerUse → Bool
has_cuts Wires = false
has_cuts Cuts = true
has_cuts Neither = false

-- the layer of this number is of such a use
abbrev pub is_use_of : (LayerUse → Bool) → Option LayerUse → Bool
is_use_of of_use None = false
is_use_of of_use (Some layer) = of_use layer

abbrev pub is_routing : List LayerUse → ℕ → Bool
is_routing layers number = is_use_of has_wires (slice_get layers number)

abbrev pub is_cut : List LayerUse → ℕ → Bool
is_cut layers number = is_use_of has_cuts (slice_get layers number)

-- a part on one of the three layers; on the two routing layers it holds the point 0 0
abbrev pub is_part : ℕ → ℕ → ℕ → ViaPart → Bool
is_part low cut high part =
    part.layer == cut || ((part.layer == low || part.layer == high) && part.holds_origin)

-- The parts join the routing layers `low` and `high`, which have no routing layer between them, by cuts
-- on a cut layer between them.
abbrev pub join : List LayerUse → ℕ → ℕ → ℕ → List ViaPart → Bool
join layers low cut high parts =
    is_routing layers low && is_cut layers cut && is_routing layers high
    && nat_lt low cut && nat_lt cut high
    && not (list_any has_wires (slice_range layers (low + 1) high))
    && list_all (is_part low cut high) parts

-- some three of the parts lie on such layers
abbrev pub join_layers : List LayerUse → List ViaPart → Bool
join_layers layers parts =
    list_any (λ a. list_any (λ b. list_any (λ c. join layers a.layer b.layer c.layer parts) parts) parts) parts
