-- The rectangle of a row is one, since its right end is a number too.
use Rattle.std.proofs.Common.{rules, ◌≡◌, ℤ, pos, ◌+ℤ◌, ◌*ℤ◌, ◌≤ℤ◌, w64, to_z, of_z, SomeIff, IsSome, Option, Some, None, refl, sym, ◌∙◌}
use Rattle.std.proofs.lemmas.Int.{to_z-of_z}
use Rattle.std.proofs.lemmas.Option.{same_Some}
use Rattle.leg_lex.specs.Number.{IsNumber}
use Rattle.leg_lex.proofs.InBits.{number_fits}
use Rattle.leg_geom.specs.Plane.{RectModel, IsRect}
use Rattle.leg_lib_records.specs.Measure.{ExtentModel, IsExtent}
use Rattle.leg_design_records.specs.WellFormedParts.{IsPosition}
use Rattle.leg_design_records.specs.declared.records.Row.{Row}
use Rattle.leg_place.specs.Steps.SiteSpan.{row_box}
use Rattle.leg_place.proofs.RowSites.{between_fits, sum_fits, row_box_proper}
use Rattle.leg_place.proofs.row_spans.row_rect.Goals as goal

-- a number as it is passed
abbrev passed : ℤ → ℤ
passed z = to_z w64 (of_z w64 z)

-- the box by its parts, as they are computed
abbrev computed_box : ℤ → ℤ → ℤ → ℤ → ℤ → RectModel
computed_box left bottom count width height = record {
  x1 = passed left;
  y1 = passed bottom;
  x2 = passed (passed left +ℤ passed (passed count *ℤ passed width));
  y2 = passed (passed bottom +ℤ passed height);
}

found : (r : Option RectModel) (box : RectModel) → SomeIff r (IsRect box) box → IsRect box → r ≡ Some box
found None box told proper = absurd (told proper)
found (Some s) box told proper = rw told.1 refl

row_found : (row : Row) (size : ExtentModel) (r : Option RectModel) → IsPosition row.at → pos 1 ≤ℤ row.count → IsNumber row.count
    → IsNumber (row.at.x +ℤ row.count *ℤ size.width) → IsExtent size
    → SomeIff r (IsRect (computed_box row.at.x row.at.y row.count size.width size.height)) (computed_box row.at.x row.at.y row.count size.width size.height)
    → r ≡ Some (row_box row size)
row_found row size r at some few end extent told =
    let left = to_z-of_z w64 row.at.x (number_fits row.at.x at.x) in
    let bottom = to_z-of_z w64 row.at.y (number_fits row.at.y at.y) in
    let count = to_z-of_z w64 row.count (number_fits row.count few) in
    let width = to_z-of_z w64 size.width (number_fits size.width extent.width) in
    let height = to_z-of_z w64 size.height (number_fits size.height extent.height) in
    let product = to_z-of_z w64 (row.count *ℤ size.width) (between_fits row.at.x (row.count *ℤ size.width) at.x end) in
    let right = to_z-of_z w64 (row.at.x +ℤ row.count *ℤ size.width) (number_fits (row.at.x +ℤ row.count *ℤ size.width) end) in
    let top = to_z-of_z w64 (row.at.y +ℤ size.height) (sum_fits row.at.y size.height at.y extent.height) in
    found r (row_box row size) (rw (left, bottom, count, width, height, product, right, top) at told) (row_box_proper row size at some end extent)

some_found : (r : Option RectModel) (box : RectModel) → r ≡ Some box → IsSome r
some_found r box is = rw is (search rules)

pub unwrap-requires : goal.unwrap-requires
unwrap-requires c =
    let row = c.args.row.now in
    let size = c.args.size.now in
    let told = rw (c.x-left.ensures.is, c.y-bottom.ensures.is, c.width.ensures.is, c.height.ensures.is) at c.new.ensures in
    some_found c.new.result (row_box row size) (row_found row size c.new.result c.requires.at c.requires.some c.requires.few c.requires.end
    c.width.ensures.proper told)

pub returns : goal.returns
returns c =
    let row = c.args.row.now in
    let size = c.args.size.now in
    let told = rw (c.x-left.ensures.is, c.y-bottom.ensures.is, c.width.ensures.is, c.height.ensures.is) at c.new.ensures in
    same_Some c.unwrap.result (row_box row size)
    (sym c.unwrap.ensures ∙ row_found row size c.new.result c.requires.at c.requires.some c.requires.few c.requires.end c.width.ensures.proper told)
