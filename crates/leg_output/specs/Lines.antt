-- The lines of violations: words separated by one blank, each line with a line feed at its end.
use Rattle.std.specs.Prelude.{ℕ, List, [], ◌++◌, Option, None, Some, codes, slice_get}
use Rattle.std.specs.List.{flat_map}
use Rattle.std.specs.Fmt.{signed_decimal}
use Rattle.leg_lex.specs.Words.{◌>>=◌}
use Rattle.leg_geom.specs.Plane.{RectModel}
use Rattle.leg_design_records.specs.Records.{DesignModel}
use Rattle.leg_design_records.specs.declared.fault.Fault.{Fault}
use Rattle.leg_design_records.specs.declared.fault.Fault.TheVariants.{Unplaced, Outside, OffSite, Overlap, Blocked, Short, TooNear, OpenNet}
use Rattle.leg_rules.specs.declared.piece.Piece.{Piece}
use Rattle.leg_rules.specs.declared.shape.Shape.{Shape}
use Rattle.leg_rules.specs.Metal.Flat.{FlatModel}
use Rattle.leg_output.specs.Names.{layer_name, owner_text, piece_text}
use Rattle.leg_design_records.specs.Names.{net_name, component_name}

-- left, lower, right, upper
abbrev pub sides_text : RectModel → List ℕ
sides_text r =
    signed_decimal r.x1 ++ codes " " ++ signed_decimal r.y1 ++ codes " " ++ signed_decimal r.x2 ++ codes " " ++ signed_decimal r.y2

-- whose a shape is, and where it lies
abbrev pub shape_text : DesignModel → Shape → List ℕ
shape_text design shape = owner_text design shape.owner ++ codes " " ++ sides_text shape.rect

-- the shape of this number, where a flat is given that has it
abbrev pub shape_at : Option FlatModel → ℕ → Option Shape
shape_at flat i = flat >>= λ (f : FlatModel). slice_get f.shapes i

abbrev pub piece_at : Option FlatModel → ℕ → ℕ → Option Piece
piece_at flat n k = flat >>= λ (f : FlatModel). slice_get f.pieces n >>= λ pieces. slice_get pieces k

-- two shapes after a word and the layer of the first; nothing, unless there are both
abbrev pub pair_line : DesignModel → List ℕ → Option Shape → Option Shape → List ℕ
pair_line design word (Some a) (Some b) =
    word ++ codes " " ++ layer_name design a.layer ++ codes " " ++ shape_text design a ++ codes " " ++ shape_text design b ++ codes "\n"
pair_line design word a b = []

-- a piece of a net; nothing, unless there is one
abbrev pub open_line : DesignModel → ℕ → Option Piece → List ℕ
open_line design n None = []
open_line design n (Some piece) = codes "OPEN " ++ net_name design n ++ codes " " ++ piece_text design piece ++ codes "\n"

-- The line of a violation. One that speaks of shapes or pieces has its line where the flat is given.
abbrev pub violation_line : DesignModel → Option FlatModel → Fault → List ℕ
violation_line design flat (Unplaced c) = codes "UNPLACED " ++ component_name design c ++ codes "\n"
violation_line design flat (Outside c) = codes "OUTSIDE " ++ component_name design c ++ codes "\n"
violation_line design flat (OffSite c) = codes "OFFSITE " ++ component_name design c ++ codes "\n"
violation_line design flat (Overlap a b) =
    codes "OVERLAP " ++ component_name design a ++ codes " " ++ component_name design b ++ codes "\n"
violation_line design flat (Blocked c) = codes "BLOCKED " ++ component_name design c ++ codes "\n"
violation_line design flat (Short i j) = pair_line design (codes "SHORT") (shape_at flat i) (shape_at flat j)
violation_line design flat (TooNear i j) = pair_line design (codes "TOONEAR") (shape_at flat i) (shape_at flat j)
violation_line design flat (OpenNet n k) = open_line design n (piece_at flat n k)

-- a line for each violation
abbrev pub violations_text : DesignModel → Option FlatModel → List Fault → List ℕ
violations_text design flat violations = flat_map (violation_line design flat) violations
