-- The lines that a design text begins with (LEF/DEF 5.8, "Version", "Divider Character", "Bus Bit Characters", "Design",
-- "Units", "Die Area"; their order is lefdef's own rule).
use Rattle.std.specs.Prelude.{ℕ, List, [], ◌∷◌, ◌++◌, Option, None, Some, codes, decimal}
use Rattle.leg_lex.specs.Words.{Words}
use Rattle.leg_output.specs.Words.{line}
use Rattle.leg_geom.specs.Plane.{RectModel}
use Rattle.leg_design_records.specs.Records.{DesignModel}
use Rattle.leg_output.specs.Text.Points.{corner_words}

-- VERSION 5.8 ;
abbrev pub version_words : Words
version_words = codes "VERSION" ∷ codes "5.8" ∷ codes ";" ∷ []

-- KEYWORD word ;
abbrev pub word_words : List ℕ → List ℕ → Words
word_words keyword word = keyword ∷ word ∷ codes ";" ∷ []

-- the same as a line, where the word was kept
abbrev pub kept_line : List ℕ → Option (List ℕ) → List ℕ
kept_line keyword None = []
kept_line keyword (Some word) = line (word_words keyword word)

-- UNITS DISTANCE MICRONS n ;
abbrev pub units_words : ℕ → Words
units_words units = codes "UNITS" ∷ codes "DISTANCE" ∷ codes "MICRONS" ∷ decimal units ∷ codes ";" ∷ []

-- DIEAREA ( x1 y1 ) ( x2 y2 ) ;
abbrev pub die_words : RectModel → Words
die_words die = codes "DIEAREA" ∷ corner_words die ++ codes ";" ∷ []

-- how names are written: VERSION, and the divider and the brackets of bus bits, where they were kept
abbrev pub naming_text : DesignModel → List ℕ
naming_text design =
    line version_words ++ kept_line (codes "DIVIDERCHAR") design.divider ++ kept_line (codes "BUSBITCHARS") design.bus

-- the design itself: DESIGN, UNITS and DIEAREA
abbrev pub frame_text : DesignModel → List ℕ
frame_text design =
    line (word_words (codes "DESIGN") design.name) ++ line (units_words design.library.units) ++ line (die_words design.die)

abbrev pub header_text : DesignModel → List ℕ
header_text design = naming_text design ++ frame_text design
