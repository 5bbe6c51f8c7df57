-- The sides of arrays of cuts, and the rectangle round one.
use Rattle.std.proofs.Common.{◌≡◌, ℤ, ◌≤◌, true, Option, unsigned_abs, to_z, of_z, w64, sym, arith}
use Rattle.std.proofs.lemmas.Int.{ints}
use Rattle.leg_geom.specs.Plane.{RectModel}
use Rattle.leg_design_records.specs.Wires.{is_even}
use Rattle.leg_grammar.specs.declared.generated_via.CutArray.{CutArray}
use Rattle.leg_grammar.specs.Def.CutArray.{area_of, array_width, array_height, array_sides, array_of}

pub side_kept : (z : ℤ) → unsigned_abs z ≤ 2000000000000000 → to_z w64 (of_z w64 z) ≡ z
side_kept z small = omega (arith, ints)

-- Where both sides are even, the array is the rectangle that they make.
pub array_made : (cuts : CutArray) (area : Option RectModel) → is_even (array_width cuts) ≡ true → is_even (array_height cuts) ≡ true
    → area ≡ area_of (array_sides cuts (array_width cuts) (array_height cuts)) → array_of cuts ≡ area
unfolding array_of
array_made cuts area wide high is = rw (wide, high) (sym is)
