-- Clauses, which entries of several sections have: words after a `+` (LEF/DEF 5.8, "Components", "Pins", "Vias").
use Rattle.std.specs.Prelude.{ℕ, List, [], ◌∷◌, Option, None, Some, codes}
use Rattle.std.specs.List.{flat_map}
use Rattle.leg_lex.specs.Words.{Words}
use Rattle.leg_geom.specs.declared.place.Place.{Place}
use Rattle.leg_lib_records.specs.declared.records.Shape.{Shape}
use Rattle.leg_design_records.specs.Records.{DesignModel}
use Rattle.leg_design_records.specs.declared.records.Status.{Status}
use Rattle.leg_design_records.specs.declared.records.Status.TheVariants.{Unplaced, Placed, Fixed, Cover}
use Rattle.leg_output.specs.Names.{layer_name}
use Rattle.leg_output.specs.Text.Points.{corner_words, place_words}

-- each clause after a `+`
abbrev pub clause_words : List Words → Words
clause_words clauses = flat_map (λ clause. codes "+" ∷ clause) clauses

-- KEYWORD word, where the word was kept
abbrev pub kept_clause : List ℕ → Option (List ℕ) → List Words
kept_clause keyword None = []
kept_clause keyword (Some word) = (keyword ∷ word ∷ []) ∷ []

-- KEYWORD layer ( x1 y1 ) ( x2 y2 )
abbrev pub shape_clause : List ℕ → DesignModel → Shape → Words
shape_clause keyword design shape = keyword ∷ layer_name design shape.layer ∷ corner_words shape.rect

abbrev pub status_word : Status → List ℕ
status_word Unplaced = codes "UNPLACED"
status_word Placed = codes "PLACED"
status_word Fixed = codes "FIXED"
status_word Cover = codes "COVER"

-- a place, where there is one
abbrev pub place_words_if_any : Option Place → Words
place_words_if_any None = []
place_words_if_any (Some place) = place_words place

-- PLACED ( x y ) orientation, FIXED or COVER with the same, or UNPLACED alone
abbrev pub placement_clause : Status → Option Place → Words
placement_clause status place = status_word status ∷ place_words_if_any place
