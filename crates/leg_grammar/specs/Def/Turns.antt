-- Orientations of vias in wiring (LEF/DEF 5.8, "Regular Wiring Statement", "Special Wiring Statement"; that a turned via is a via of its own is
-- lefdef's own rule).
use Rattle.std.specs.Prelude.{ℕ, Bool, ◌&&◌, ◌==◌, if◌then◌else◌, List, [], ◌∷◌, Option, None, Some, codes}
use Rattle.std.specs.Str.{bytes_eq}
use Rattle.leg_geom.specs.declared.orient.Orient.{Orient}
use Rattle.leg_geom.specs.declared.orient.Orient.TheVariants.{N, S, W, E, FN, FS, FW, FE}
use Rattle.leg_grammar.specs.declared.turned_via.TurnedVia.{TurnedVia}

-- what an orientation adds to the name of a via
abbrev pub orient_suffix : Orient → List ℕ
orient_suffix N = codes "_N"
orient_suffix S = codes "_S"
orient_suffix W = codes "_W"
orient_suffix E = codes "_E"
orient_suffix FN = codes "_FN"
orient_suffix FS = codes "_FS"
orient_suffix FW = codes "_FW"
orient_suffix FE = codes "_FE"

abbrev pub is_same_orient : Orient → Orient → Bool
is_same_orient a b = bytes_eq (orient_suffix a) (orient_suffix b)

-- the number of a via in an orientation, where it is turned so
abbrev pub turn_number : List TurnedVia → ℕ → Orient → Option ℕ
turn_number [] via orient = None
turn_number (turned ∷ others) via orient =
    if turned.via == via && is_same_orient turned.orient orient then Some turned.number else turn_number others via orient
