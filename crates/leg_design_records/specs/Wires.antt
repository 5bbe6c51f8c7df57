-- What holds of the wires of nets (LEF/DEF 5.8, "Regular Wiring Statement", "Special Wiring Statement"; which extensions
-- and widths are taken are lefdef's own rules).
use Rattle.std.specs.Prelude.{ℕ, ℤ, pos, Bool, ◌||◌, ◌+ℤ◌, Option, None, Some, unwrap_or}
use Rattle.std.specs.Ordering.{int_eq}
use Rattle.leg_geom.specs.Plane.{PointModel, halfway}
use Rattle.leg_lib_records.specs.Records.{LibraryModel}
use Rattle.leg_design_records.specs.Layers.{width_of_layer}

-- a segment is horizontal or vertical
abbrev pub is_straight : PointModel → PointModel → Bool
is_straight p q = int_eq p.x q.x || int_eq p.y q.y

abbrev pub is_even : ℤ → Bool
is_even z = int_eq (halfway (pos 0) z +ℤ halfway (pos 0) z) z

-- How far a segment reaches past an end whose extension is not written: in NETS half the width of the layer's wires, in
-- SPECIALNETS nothing.
unfoldable pub default_extension : LibraryModel → Option ℤ → ℕ → ℤ
default_extension library None layer = halfway (pos 0) (unwrap_or (width_of_layer library layer) (pos 0))
default_extension library (Some width) layer = pos 0
