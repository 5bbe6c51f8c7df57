-- Sites side by side, and the order in which those of rows are looked for.
use Rattle.std.specs.Prelude.{ℕ, Bool, ◌&&◌, ◌==◌, ◌+ℤ◌, ◌*ℤ◌, int_le}
use Rattle.std.specs.Int.{int_rem_euclid}
use Rattle.std.specs.declared.cmp.Ordering.{Ordering}
use Rattle.std.specs.Ordering.{nat_cmp, int_cmp, int_eq, ordering_then, is_le}
use Rattle.leg_geom.specs.Plane.{RectModel}
use Rattle.leg_geom.specs.declared.orient.Orient.{Orient}
use Rattle.leg_geom.specs.declared.orient.Orient.TheVariants.{N, S, W, E, FN, FS, FW, FE}
use Rattle.leg_lib_records.specs.Measure.{ExtentModel}
use Rattle.leg_design_records.specs.declared.records.Row.{Row}
use Rattle.leg_place.specs.declared.site_span.SiteLine.{SiteLine}
use Rattle.leg_place.specs.declared.site_span.SiteSpan.{SiteSpan}

-- the place of an orientation among all of them
abbrev pub orient_rank : Orient → ℕ
orient_rank N = 0
orient_rank S = 1
orient_rank W = 2
orient_rank E = 3
orient_rank FN = 4
orient_rank FS = 5
orient_rank FW = 6
orient_rank FE = 7

-- the sites of this number, size and orientation, one of which begins at the box's lower left corner, from its left
-- edge to its right one
abbrev pub span_of : ℕ → ExtentModel → Orient → RectModel → SiteSpan
span_of site size orient box = record {
  line = record { site = site; orient = orient_rank orient; bottom = box.y1; shift = int_rem_euclid box.x1 size.width };
  left = box.x1;
  right = box.x2;
}

-- the box of all sites of a row, which are of this size
abbrev pub row_box : Row → ExtentModel → RectModel
row_box row size = record { x1 = row.at.x; y1 = row.at.y; x2 = row.at.x +ℤ row.count *ℤ size.width; y2 = row.at.y +ℤ size.height }

abbrev pub is_same_line : SiteLine → SiteLine → Bool
is_same_line a b = (a.site == b.site) && ((a.orient == b.orient) && (int_eq a.bottom b.bottom && int_eq a.shift b.shift))

-- the first span has all sites of the second
abbrev pub covers : SiteSpan → SiteSpan → Bool
covers a b = is_same_line a.line b.line && int_le a.left b.left && int_le b.right a.right

-- the order of lines
abbrev pub line_cmp : SiteLine → SiteLine → Ordering
line_cmp a b =
    ordering_then (nat_cmp a.site b.site) (ordering_then (nat_cmp a.orient b.orient) (ordering_then (int_cmp a.bottom b.bottom) (int_cmp a.shift b.shift)))

-- the first span is of an earlier line, or of the same one and begins where the second does or to the left
abbrev pub begins_by : SiteSpan → SiteSpan → Bool
begins_by a b = is_le (ordering_then (line_cmp a.line b.line) (int_cmp a.left b.left))
