-- The line of tracks (LEF/DEF 5.8, "Tracks").
use Rattle.std.specs.Prelude.{ℕ, List, [], ◌∷◌, ◌++◌, map, codes}
use Rattle.std.specs.Fmt.{signed_decimal}
use Rattle.leg_lex.specs.Words.{Words}
use Rattle.leg_design_records.specs.declared.records.Axis.{Axis}
use Rattle.leg_design_records.specs.declared.records.Axis.TheVariants.{X, Y}
use Rattle.leg_design_records.specs.Records.{DesignModel, TrackModel}
use Rattle.leg_output.specs.Names.{layer_name}

abbrev pub axis_word : Axis → List ℕ
axis_word X = codes "X"
axis_word Y = codes "Y"

-- LAYER name .., where layers are given
abbrev pub layer_words : DesignModel → List ℕ → Words
layer_words design [] = []
layer_words design (layer ∷ layers) = codes "LAYER" ∷ map (layer_name design) (layer ∷ layers)

-- TRACKS X start DO count STEP step layers, or the same with Y
abbrev pub track_said : DesignModel → TrackModel → Words
track_said design track =
    codes "TRACKS" ∷ axis_word track.axis ∷ signed_decimal track.start ∷ codes "DO" ∷ signed_decimal track.count
    ∷ codes "STEP" ∷ signed_decimal track.step ∷ layer_words design track.layers

-- the same with its semicolon
abbrev pub track_words : DesignModel → TrackModel → Words
track_words design track = track_said design track ++ codes ";" ∷ []
