-- The entry of a via (LEF/DEF 5.8, "Vias").
use Rattle.std.specs.Prelude.{[], ◌∷◌, ◌++◌, map, codes}
use Rattle.leg_lex.specs.Words.{Words}
use Rattle.leg_lib_records.specs.Records.{ViaModel}
use Rattle.leg_design_records.specs.Records.{DesignModel}
use Rattle.leg_output.specs.Text.Clauses.{clause_words, shape_clause}

-- - name, and for each rectangle + RECT layer ( x1 y1 ) ( x2 y2 )
abbrev pub via_said : DesignModel → ViaModel → Words
via_said design via =
    codes "-" ∷ via.name ∷ clause_words (map (shape_clause (codes "RECT") design) via.shapes)

-- the same with its semicolon
abbrev pub via_words : DesignModel → ViaModel → Words
via_words design via = via_said design via ++ codes ";" ∷ []
