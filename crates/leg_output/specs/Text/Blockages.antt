-- The entry of a blockage (LEF/DEF 5.8, "Blockages").
use Rattle.std.specs.Prelude.{ℕ, [], ◌∷◌, ◌++◌, Option, None, Some, codes}
use Rattle.std.specs.List.{flat_map}
use Rattle.leg_lex.specs.Words.{Words}
use Rattle.leg_geom.specs.Plane.{RectModel}
use Rattle.leg_design_records.specs.Records.{DesignModel, BlockageModel}
use Rattle.leg_output.specs.Names.{layer_name}
use Rattle.leg_output.specs.Text.Points.{corner_words}

-- LAYER name, where a layer is named, and else PLACEMENT
abbrev pub blocked_layer_words : DesignModel → Option ℕ → Words
blocked_layer_words design None = codes "PLACEMENT" ∷ []
blocked_layer_words design (Some layer) = codes "LAYER" ∷ layer_name design layer ∷ []

-- RECT ( x1 y1 ) ( x2 y2 )
abbrev pub rect_words : RectModel → Words
rect_words rect = codes "RECT" ∷ corner_words rect

-- - LAYER name or - PLACEMENT, and its rectangles
abbrev pub blockage_parts : DesignModel → BlockageModel → Words
blockage_parts design blockage =
    codes "-" ∷ blocked_layer_words design blockage.layer ++ flat_map rect_words blockage.rects

-- the same with its semicolon
abbrev pub blockage_words : DesignModel → BlockageModel → Words
blockage_words design blockage = blockage_parts design blockage ++ codes ";" ∷ []
