-- Rectangles that have area and lie within the limit of numbers.
use Rattle.std.proofs.Common.{◌≡◌, ◌&&◌, true, ℤ, int_lt, arith}
use Rattle.std.proofs.lemmas.Bool.{and_parts}
use Rattle.std.proofs.lemmas.Bool.Decides.{nat_tests}
use Rattle.leg_lemmas.proofs.Integers.{lt_from_test}
use Rattle.leg_lex.specs.Number.{IsNumber}
use Rattle.leg_geom.specs.Plane.{RectModel, IsRect, IsCoordinate}
use Rattle.leg_grammar.specs.Def.Guard.{is_within}
use Rattle.leg_grammar.specs.Def.CutArray.{are_within, is_area}
use Rattle.leg_design_records.specs.WellFormedParts.{IsArea}

-- a number within the limit
pub within_is : (z : ℤ) → is_within z ≡ true → IsNumber z
within_is z within = grind (arith, nat_tests)

pub area_is : (r : RectModel) → is_area r ≡ true → IsArea r
area_is r test =
    let high = and_parts (are_within r && int_lt r.x1 r.x2) (int_lt r.y1 r.y2) test in
    let wide = and_parts (are_within r) (int_lt r.x1 r.x2) high.0 in
    let y2 = and_parts (is_within r.x1 && is_within r.y1 && is_within r.x2) (is_within r.y2) wide.0 in
    let x2 = and_parts (is_within r.x1 && is_within r.y1) (is_within r.x2) y2.0 in
    let corner = and_parts (is_within r.x1) (is_within r.y1) x2.0 in
    record {
      x1 = within_is r.x1 corner.0;
      y1 = within_is r.y1 corner.1;
      x2 = within_is r.x2 x2.1;
      y2 = within_is r.y2 y2.1;
      proper = record { wide = lt_from_test r.x1 r.x2 wide.1; high = lt_from_test r.y1 r.y2 high.1 };
    }

is_coordinate : (z : ℤ) → IsNumber z → IsCoordinate z
is_coordinate z number = omega arith

pub is_rect : (x1 y1 x2 y2 : ℤ) → is_area (record { x1 = x1; y1 = y1; x2 = x2; y2 = y2 }) ≡ true
    → IsRect (record { x1 = x1; y1 = y1; x2 = x2; y2 = y2 })
is_rect x1 y1 x2 y2 test =
    let area = area_is (record { x1 = x1; y1 = y1; x2 = x2; y2 = y2 }) test in
    record {
      x1 = is_coordinate x1 area.x1;
      y1 = is_coordinate y1 area.y1;
      x2 = is_coordinate x2 area.x2;
      y2 = is_coordinate y2 area.y2;
      wide = area.proper.wide;
      high = area.proper.high;
    }
