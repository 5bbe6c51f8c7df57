-- Points, corners, orientations and places as words (LEF/DEF 5.8, "Components", "Pins").
use Rattle.std.specs.Prelude.{ℕ, List, [], ◌∷◌, ◌++◌, codes}
use Rattle.std.specs.Fmt.{signed_decimal}
use Rattle.leg_lex.specs.Words.{Words}
use Rattle.leg_geom.specs.Plane.{PointModel, RectModel}
use Rattle.leg_geom.specs.declared.orient.Orient.{Orient}
use Rattle.leg_geom.specs.declared.orient.Orient.TheVariants.{N, S, W, E, FN, FS, FW, FE}
use Rattle.leg_geom.specs.declared.place.Place.{Place}

-- ( x y )
abbrev pub spot_words : PointModel → Words
spot_words p = codes "(" ∷ signed_decimal p.x ∷ signed_decimal p.y ∷ codes ")" ∷ []

-- ( x1 y1 ) ( x2 y2 ): the lower left corner, and then the upper right one
abbrev pub corner_words : RectModel → Words
corner_words r = spot_words (record { x = r.x1; y = r.y1 }) ++ spot_words (record { x = r.x2; y = r.y2 })

abbrev pub orient_word : Orient → List ℕ
orient_word N = codes "N"
orient_word S = codes "S"
orient_word W = codes "W"
orient_word E = codes "E"
orient_word FN = codes "FN"
orient_word FS = codes "FS"
orient_word FW = codes "FW"
orient_word FE = codes "FE"

-- ( x y ) orientation
abbrev pub place_words : Place → Words
place_words place = spot_words place.at ++ orient_word place.orient ∷ []
