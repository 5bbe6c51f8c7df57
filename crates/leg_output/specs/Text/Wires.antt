-- The words of a wire, which is a path of its own (LEF/DEF 5.8, "Regular Wiring Statement", "Special Wiring Statement";
-- that a wire is no part of a longer path is lefdef's own rule).
use Rattle.std.specs.Prelude.{ℕ, ℤ, pos, Bool, true, false, if◌then◌else◌, List, [], ◌∷◌, ◌++◌, fold, min, Option, None, Some, codes}
use Rattle.std.specs.Fmt.{signed_decimal}
use Rattle.std.specs.Ordering.{int_eq}
use Rattle.leg_lex.specs.Words.{Words}
use Rattle.leg_geom.specs.Plane.{PointModel, RectModel}
use Rattle.leg_lib_records.specs.declared.records.Shape.{Shape}
use Rattle.leg_lib_records.specs.Records.{LibraryModel, ViaModel}
use Rattle.leg_design_records.specs.declared.records.Wire.{Wire}
use Rattle.leg_design_records.specs.declared.records.Wire.TheVariants.{Segment, ViaAt, Patch}
use Rattle.leg_design_records.specs.Wires.{default_extension}
use Rattle.leg_design_records.specs.WellFormedNets.{written}
use Rattle.leg_design_records.specs.Records.{DesignModel}
use Rattle.leg_output.specs.Names.{layer_name}
use Rattle.leg_design_records.specs.Names.{design_via, via_name}
use Rattle.leg_output.specs.Text.Points.{spot_words}

-- a number, where there is one
abbrev pub number_words : Option ℤ → Words
number_words None = []
number_words (Some z) = signed_decimal z ∷ []

-- the width of a path, which is written in SPECIALNETS only
abbrev pub width_words : Bool → ℤ → Words
width_words false width = []
width_words true width = signed_decimal width ∷ []

-- ( x y ), or ( x y extension ) where one is given
abbrev pub point_words : PointModel → Option ℤ → Words
point_words p extension =
    codes "(" ∷ signed_decimal p.x ∷ signed_decimal p.y ∷ number_words extension ++ codes ")" ∷ []

-- an extension is given where it isn't the one that holds where none is given
abbrev pub given_extension : LibraryModel → Bool → ℕ → ℤ → Option ℤ
given_extension library special layer extension =
    if int_eq extension (default_extension library (written special) layer) then None else Some extension

-- The lowest layer that shapes lie on. A good via lies on two routing layers and a cut layer between them, so it is the
-- lower of the two.
abbrev pub lowest_layer : List Shape → ℕ
lowest_layer [] = 0
lowest_layer (shape ∷ shapes) = fold (λ lowest other. min lowest other.layer) shape.layer shapes

abbrev pub shapes_if_any : Option ViaModel → List Shape
shapes_if_any None = []
shapes_if_any (Some via) = via.shapes

-- the lower routing layer of the via of this number
abbrev pub lower_layer_of_via : DesignModel → ℕ → ℕ
lower_layer_of_via design via = lowest_layer (shapes_if_any (design_via design via))

-- layer width from to: a segment, with its extensions
abbrev pub segment_words : DesignModel → Bool → ℕ → PointModel → PointModel → ℤ → ℤ → ℤ → Words
segment_words design special layer from to width ext_from ext_to =
    layer_name design layer ∷ width_words special width
    ++ point_words from (given_extension design.library special layer ext_from)
    ++ point_words to (given_extension design.library special layer ext_to)

-- layer width ( x y ) name: a via, whose path begins on its lower layer and has no width
abbrev pub via_wire_words : DesignModel → Bool → ℕ → PointModel → Words
via_wire_words design special via at =
    layer_name design (lower_layer_of_via design via) ∷ width_words special (pos 0)
    ++ spot_words at ++ via_name design via ∷ []

-- layer ( x y ) RECT ( x1 y1 x2 y2 ): a rectangle, given from its point
abbrev pub patch_words : DesignModel → ℕ → PointModel → RectModel → Words
patch_words design layer at rect =
    layer_name design layer ∷ spot_words at
    ++ codes "RECT" ∷ codes "(" ∷ signed_decimal rect.x1 ∷ signed_decimal rect.y1 ∷ signed_decimal rect.x2
    ∷ signed_decimal rect.y2 ∷ codes ")" ∷ []

-- the path of a wire
abbrev pub wire_words : DesignModel → Bool → Wire → Words
wire_words design special (Segment layer from to width ext_from ext_to) =
    segment_words design special layer from to width ext_from ext_to
wire_words design special (ViaAt via at) = via_wire_words design special via at
wire_words design special (Patch layer at rect) = patch_words design layer at rect
