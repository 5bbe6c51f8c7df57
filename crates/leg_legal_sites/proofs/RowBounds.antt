-- What bounds the free sites of rows.
use Rattle.std.proofs.Common.{◌≡◌, ℕ, ◌+◌, ◌*◌, ◌≤◌, ℤ, pos, negsuc, ◌+ℤ◌, ◌*ℤ◌, ◌≤ℤ◌, ◌<ℤ◌, unsigned_abs, w64, to_z, of_z, FitsSigned, List, inl, inr, ap, ◌∙◌, arith}
use Rattle.std.specs.Int.{saturate_signed}
use Rattle.std.proofs.Math.IntN.{pos-*ℤ-pos}
use Rattle.std.proofs.Math.Nat.{mul-le-mul_right}
use Rattle.std.proofs.lemmas.Bool.{cases_eq}
use Rattle.std.proofs.lemmas.Int.{ints, to_z-of_z}
use Rattle.leg_geom.specs.Plane.{RectModel, IsCoordinate, ShareSquare}
use Rattle.leg_geom.proofs.Coordinates.{sum_fits}
use Rattle.leg_lib_records.specs.Measure.{ExtentModel, HasArea}
use Rattle.leg_design_records.specs.WellFormedParts.{IsArea}
use Rattle.leg_design_records.specs.declared.records.Row.{Row}
use Rattle.leg_rules.specs.Placement.Sites.{site_box}
use Rattle.leg_legal_sites.specs.declared.stretch.Stretch.{Stretch}
use Rattle.leg_legal_sites.specs.declared.ends.Ends.{Ends}
use Rattle.leg_legal_sites.specs.Steps.Parts.{IsPartSpan}
use Rattle.leg_legal_sites.specs.declared.bounds.Bounds.{Bounds}
use Rattle.leg_legal_sites.specs.Steps.Stretches.{IsFreeSite}
use Rattle.leg_rules.specs.Legalise.Clear.{HasAllSquares}
use Rattle.leg_legal_sites.specs.Steps.SiteBounds.{DoBoundSite, DoBound}
use Rattle.leg_legal_sites.specs.Steps.Bounds.{AreWithinBounds, DoCover, DoBoundAlike, IsBeside}
use Rattle.leg_legal_sites.proofs.SharedSquares.{overlap_from_shared, bounds_from_all_squares}
use Rattle.leg_legal_sites.proofs.SiteSquares.{site_proper}

-- a site of a higher number doesn't begin further to the left
pub edges_rise : (x width : ℤ) (j k : ℕ) → pos 0 <ℤ width → j ≤ k → (x +ℤ pos j *ℤ width) ≤ℤ (x +ℤ pos k *ℤ width)
edges_rise x width j k some order =
    let n : ℕ = unsigned_abs width in
    let wide : width ≡ pos n = omega (arith, ints, some) in
    let first : pos j *ℤ width ≡ pos (j * n) = ap (λ z. pos j *ℤ z) wide ∙ pos-*ℤ-pos j n in
    let second : pos k *ℤ width ≡ pos (k * n) = ap (λ z. pos k *ℤ z) wide ∙ pos-*ℤ-pos k n in
    let up : j * n ≤ k * n = mul-le-mul_right n order in
    omega (arith, ints, first, second, up)

module _ (number : ℕ) (row : Row) (size : ExtentModel) where
  pub bound_nothing : (bounds : Bounds) (free : List Stretch) → ((k : ℕ) → ¬ IsFreeSite free k) → DoBound bounds number row size free
  bound_nothing bounds free none = record {
    sites = λ k site. absurd (none k site);
    longest = λ many first sites. elim (cases_eq many 0) [
      | inl zero_many ↦ omega (arith, zero_many)
      | inr some ↦ absurd (none first (sites first (omega arith) (omega (arith, some))))
    ];
  }

  -- what is left of free sites is bounded by what bounds them all
  pub bound_fewer : (bounds : Bounds) (free rest : List Stretch) → ((k : ℕ) → IsFreeSite rest k → IsFreeSite free k) → DoBound bounds number row size free
      → DoBound bounds number row size rest
  bound_fewer bounds free rest fewer bound = record {
    sites = λ k site. bound.sites k (fewer k site);
    longest = λ many first sites. bound.longest many first (λ k from below. fewer k (sites k from below));
  }

  site_more : (outer inner : Bounds) (k : ℕ) → DoCover outer inner → DoBoundSite inner number row size k → DoBoundSite outer number row size k
  site_more outer inner k cover site = record {
    least_row = omega (arith, cover.least_row, site.least_row);
    least_site = omega (arith, cover.least_site, site.least_site);
    most_site = omega (arith, cover.most_site, site.most_site);
    low = omega (arith, ints, cover.low, site.low);
    high = omega (arith, ints, cover.high, site.high);
    top = omega (arith, ints, cover.top, site.top);
    left = omega (arith, ints, cover.left, site.left);
    right = omega (arith, ints, cover.right, site.right);
    corner = omega (arith, ints, cover.corner, site.corner);
  }

  pub bound_more : (outer inner : Bounds) (free : List Stretch) → DoCover outer inner → DoBound inner number row size free → DoBound outer number row size free
  bound_more outer inner free cover bound = record {
    sites = λ k site. site_more outer inner k cover (bound.sites k site);
    longest = λ many first sites. let most = bound.longest many first sites in omega (arith, cover.longest, most);
  }

  -- a rectangle beside what is bounded meets none of it
  pub unmet_beside : (bounds : Bounds) (rect : RectModel) (k : ℕ) → IsBeside bounds rect → DoBoundSite bounds number row size k
      → ¬ ShareSquare rect (site_box row size k)
  unmet_beside bounds rect k beside site shared =
      let both = overlap_from_shared rect (site_box row size k) shared in
      elim beside [
        | inl below ↦ absurd (omega (arith, ints, below, both.top, site.low))
        | inr others ↦
            elim others [
              | inl above ↦ absurd (omega (arith, ints, above, both.bottom, site.top))
              | inr sides ↦
                  elim sides [
                    | inl left ↦ absurd (omega (arith, ints, left, both.right, site.left))
                    | inr right ↦ absurd (omega (arith, ints, right, both.left, site.right))
                  ]
            ]
      ]

  -- the first and the last free site bound them all
  module _ (area : HasArea size) (free : List Stretch) (ends : Ends) (span : IsPartSpan free ends) where
    -- the numbers that a row's own sites and those two make
    pub record IsOfEnds (bounds : Bounds) : Type 0 where
      pub least_row : bounds.least_row ≡ number
      pub least_site : bounds.least_site ≡ row.site
      pub most_site : bounds.most_site ≡ row.site
      pub low : bounds.low ≡ row.at.y
      pub high : bounds.high ≡ row.at.y
      pub top : bounds.top ≡ row.at.y +ℤ size.height
      pub left : bounds.left ≡ row.at.x +ℤ pos ends.from *ℤ size.width
      pub right : bounds.right ≡ row.at.x +ℤ pos ends.end *ℤ size.width
      pub corner : bounds.corner ≡ (row.at.x +ℤ pos ends.from *ℤ size.width) +ℤ row.at.y
      pub longest : bounds.longest ≡ ends.longest

    pub bound_row : (bounds : Bounds) → IsOfEnds bounds → DoBound bounds number row size free
    bound_row bounds is = record {
      sites = λ k site.
          let left = edges_rise row.at.x size.width ends.from k area.wide (span.above k site) in
          let right = edges_rise row.at.x size.width (k + 1) ends.end area.wide (let below = span.below k site in omega (arith, below)) in record {
            least_row = omega (arith, is.least_row);
            least_site = omega (arith, is.least_site);
            most_site = omega (arith, is.most_site);
            low = omega (arith, ints, is.low);
            high = omega (arith, ints, is.high);
            top = omega (arith, ints, is.top);
            left = omega (arith, ints, left, is.left);
            right = omega (arith, ints, right, is.right);
            corner = omega (arith, ints, left, is.corner);
          };
      longest = λ many from sites. let most = span.longest many from sites in omega (arith, most, is.longest);
    }

    -- the numbers that the sites of one list make, of rows that others bound and that begin at one x
    pub record IsOfSites (old bounds : Bounds) : Type 0 where
      pub least_row : bounds.least_row ≡ old.least_row
      pub least_site : bounds.least_site ≡ old.least_site
      pub most_site : bounds.most_site ≡ old.most_site
      pub low : bounds.low ≡ old.low
      pub high : bounds.high ≡ old.high
      pub top : bounds.top ≡ old.top
      pub left : bounds.left ≡ row.at.x +ℤ pos ends.from *ℤ size.width
      pub right : bounds.right ≡ row.at.x +ℤ pos ends.end *ℤ size.width
      pub corner : (y : ℤ) → IsCoordinate y → old.low ≤ℤ y → bounds.corner ≤ℤ ((row.at.x +ℤ pos ends.from *ℤ size.width) +ℤ y)
      pub longest : bounds.longest ≡ ends.longest

    pub bound_alike : (old bounds : Bounds) → IsOfSites old bounds → DoBoundAlike old row size free bounds
    bound_alike old bounds is its other same far fits = record {
      sites = λ k site.
          let before = fits k site in
          let left = edges_rise row.at.x size.width ends.from k area.wide (span.above k site) in
          let right = edges_rise row.at.x size.width (k + 1) ends.end area.wide (let below = span.below k site in omega (arith, below)) in
          let corner = is.corner other.at.y far before.low in record {
            least_row = omega (arith, is.least_row, before.least_row);
            least_site = omega (arith, is.least_site, before.least_site);
            most_site = omega (arith, is.most_site, before.most_site);
            low = omega (arith, ints, is.low, before.low);
            high = omega (arith, ints, is.high, before.high);
            top = omega (arith, ints, is.top, before.top);
            left = omega (arith, ints, left, is.left, same);
            right = omega (arith, ints, right, is.right, same);
            corner = omega (arith, ints, left, corner, same);
          };
      longest = λ many from sites. let most = span.longest many from sites in omega (arith, most, is.longest);
    }

  -- free sites in the die begin and end within the limit
  pub within_die : (area : HasArea size) (die : RectModel) → IsArea die → (free : List Stretch)
      → ((k : ℕ) → IsFreeSite free k → HasAllSquares die (site_box row size k)) → AreWithinBounds row size free
  within_die area die rect free inside = record {
    left = λ k site.
        let on = edges_rise row.at.x size.width k (k + 1) area.wide (omega arith) in
        let bounds = bounds_from_all_squares die (site_box row size k) (site_proper row size area k) (inside k site) in
        omega (arith, ints, on, bounds.left, bounds.right, rect.x1, rect.x2);
    right = λ k site.
        let on = edges_rise row.at.x size.width k (k + 1) area.wide (omega arith) in
        let bounds = bounds_from_all_squares die (site_box row size k) (site_proper row size area k) (inside k site) in
        omega (arith, ints, on, bounds.left, bounds.right, rect.x1, rect.x2);
  }

pub sum_passed : (a b : ℤ) → IsCoordinate a → IsCoordinate b → to_z w64 (of_z w64 (a +ℤ b)) ≡ a +ℤ b
sum_passed a b first second = to_z-of_z w64 (a +ℤ b) (sum_fits a b first second)

-- a sum that is cut off at the ends of its type is no more than what the whole one is no more than
pub saturated_upto : (s t : ℤ) → s ≤ℤ t → FitsSigned w64 t → saturate_signed w64 s ≤ℤ t
saturated_upto (pos n) t below fits = grind (arith, ints)
saturated_upto (negsuc n) t below fits = grind (arith, ints)
