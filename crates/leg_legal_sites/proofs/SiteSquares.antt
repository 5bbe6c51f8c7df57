-- The unit squares of consecutive sites of a row are those of one box.
use Rattle.std.proofs.Common.{◌≡◌, ℕ, ◌+◌, ◌*◌, ◌/◌, ◌<◌, ◌≤◌, pos, ◌+ℤ◌, ◌-ℤ◌, ◌*ℤ◌, ◌≤ℤ◌, unsigned_abs, arith}
use Rattle.std.proofs.Math.Nat.{div-mul-le_self, lt-div-mul-add, le-div_iff_mul-le, div-lt_iff_lt-mul, mul-le-mul_right}
use Rattle.std.proofs.lemmas.Int.{ints}
use Rattle.leg_lemmas.proofs.Naturals.{product_more}
use Rattle.leg_geom.specs.Plane.{PointModel, HasSquare}
use Rattle.leg_lib_records.specs.Measure.{ExtentModel, HasArea, IsProper}
use Rattle.leg_design_records.specs.declared.records.Row.{Row}
use Rattle.leg_rules.specs.Placement.Sites.{site_box, SitesHave, IsOnSites}
use Rattle.leg_legal_sites.specs.Steps.ClearSites.{sites_box}
use Rattle.leg_legal_sites.proofs.SiteEdges.{edge_is}

module _ (row : Row) (size : ExtentModel) (area : HasArea size) where
  abbrev n : ℕ
  n = unsigned_abs size.width

  width_is : size.width ≡ pos n
  width_is = omega (arith, ints, area.wide)

  some : 0 < n
  some = omega (arith, ints, area.wide)

  -- where the left edge of a site lies
  edge : (k : ℕ) → pos k *ℤ size.width ≡ pos (k * n)
  edge k = edge_is size.width n width_is k

  -- a site has area
  pub site_proper : (k : ℕ) → IsProper (site_box row size k)
  site_proper k = record {
    wide = rw (edge k, edge (k + 1)) (omega (arith, ints, product_more k n, some));
    high = omega (arith, ints, area.high);
  }

  module _ (first many : ℕ) (square : PointModel) where
    -- a unit square of the box is one of a site
    pub site_of_square : HasSquare (sites_box row size first many) square → SitesHave row size first many square
    site_of_square c =
        let left = rw (edge first) at c.left in
        let right = rw (edge (first + many)) at c.right in
        let d = unsigned_abs (square.x -ℤ row.at.x) in
        let apart : square.x ≡ row.at.x +ℤ pos d = omega (arith, ints, left) in
        let from : first * n ≤ d = omega (arith, ints, left, apart) in
        let upto : d < (first + many) * n = omega (arith, ints, right, apart) in
        record {
          k = d / n;
          from = (le-div_iff_mul-le some).1 from;
          below = (div-lt_iff_lt-mul some).1 upto;
          inside = record {
            left = rw (edge (d / n)) (omega (arith, ints, apart, div-mul-le_self d n));
            right = rw (edge (d / n + 1)) (omega (arith, ints, apart, lt-div-mul-add {a = d} some, product_more (d / n) n));
            bottom = c.bottom;
            top = c.top;
          };
        }

    -- and the other way round
    pub square_of_site : SitesHave row size first many square → HasSquare (sites_box row size first many) square
    square_of_site s =
        let left = rw (edge s.k) at s.inside.left in
        let right = rw (edge (s.k + 1)) at s.inside.right in
        let last : s.k + 1 ≤ first + many = omega (arith, s.below) in
        record {
          left = rw (edge first) (omega (arith, ints, left, mul-le-mul_right n s.from));
          right = rw (edge (first + many)) (omega (arith, ints, right, mul-le-mul_right n last));
          bottom = s.inside.bottom;
          top = s.inside.top;
        }

  -- so the box stands on these sites, where the row has them
  pub on_sites : (first many : ℕ) → pos (first + many) ≤ℤ row.count → IsOnSites row size (sites_box row size first many)
  on_sites first many within = record {
    first = first;
    many = many;
    within = within;
    squares = λ square. (site_of_square first many square, square_of_site first many square);
  }
