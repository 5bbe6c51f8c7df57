-- The sites of a row that a rectangle meets, and those in the die, by the edges of sites.
use Rattle.std.proofs.Common.{◌≡◌, ◌↔◌, ◌⊎◌, ℕ, ◌+◌, ◌<◌, min, ℤ, pos, ◌+ℤ◌, ◌*ℤ◌, ◌<ℤ◌, ◌≤ℤ◌, w64, to_z, of_z, inl, inr, arith}
use Rattle.std.proofs.lemmas.Bool.{cases_lt}
use Rattle.std.proofs.lemmas.Int.{ints, by_lt_z, to_z-of_z, fits_signed_from_abs}
use Rattle.leg_geom.specs.Plane.{RectModel, ShareSquare, IsCoordinate}
use Rattle.leg_lib_records.specs.Measure.{ExtentModel, HasArea, IsProper}
use Rattle.leg_design_records.specs.declared.records.Row.{Row}
use Rattle.leg_rules.specs.Placement.Sites.{site_box}
use Rattle.leg_legal_sites.specs.declared.stretch.Stretch.{Stretch}
use Rattle.leg_legal_sites.specs.Steps.RowSites.{AreSitesMet, AreSitesInside}
use Rattle.leg_legal_sites.proofs.SharedSquares.{overlap_from_shared, shared_from_overlap, all_squares_from_bounds, bounds_from_all_squares}
use Rattle.leg_legal_sites.proofs.SiteSquares.{site_proper}

-- a coordinate is passed as it is
pub coordinate_passed : (z : ℤ) → IsCoordinate z → to_z w64 (of_z w64 z) ≡ z
coordinate_passed z within = to_z-of_z w64 z (fits_signed_from_abs w64 z (omega (arith, within)))

-- so many sites of the row begin to the left of x
abbrev pub DoBegin : Row → ExtentModel → ℤ → ℕ → Type 0
DoBegin row size x many = (k : ℕ) → k < many ↔ ((row.at.x +ℤ pos k *ℤ size.width) <ℤ x)

-- so many end at x or to the left of it
abbrev pub DoEnd : Row → ExtentModel → ℤ → ℕ → Type 0
DoEnd row size x many = (k : ℕ) → k < many ↔ ((row.at.x +ℤ pos (k + 1) *ℤ size.width) ≤ℤ x)

module _ (row : Row) (size : ExtentModel) where
  -- a rectangle below a row or above it meets no site of it
  pub unmet_along_y : (rect : RectModel) → ((row.at.y +ℤ size.height) ≤ℤ rect.y1) ⊎ (rect.y2 ≤ℤ row.at.y) → (k : ℕ) → ¬ ShareSquare rect (site_box row size k)
  unmet_along_y rect beside k shared =
      let both = overlap_from_shared rect (site_box row size k) shared in
      elim beside [ inl below ↦ absurd (omega (arith, ints, below, both.bottom)) | inr above ↦ absurd (omega (arith, ints, above, both.top)) ]

  abbrev none : Stretch
  none = record { from = 0; end = 0 }

  pub none_met : (rect : RectModel) → ((row.at.y +ℤ size.height) ≤ℤ rect.y1) ⊎ (rect.y2 ≤ℤ row.at.y) → AreSitesMet row size rect none
  none_met rect beside k = (λ among. absurd (omega (arith, among.below)), λ shared. absurd (unmet_along_y rect beside k shared))

  module _ (area : HasArea size) where
    -- met are the sites that don't end by the rectangle's left edge, but begin before its right one
    pub met_between : (rect : RectModel) (sites : Stretch) → IsProper rect → DoEnd row size rect.x1 sites.from → DoBegin row size rect.x2 sites.end
        → row.at.y <ℤ rect.y2 → rect.y1 <ℤ (row.at.y +ℤ size.height) → AreSitesMet row size rect sites
    met_between rect sites proper ended begun bottom top k = (
      λ among.
          shared_from_overlap rect (site_box row size k) proper (site_proper row size area k) (record {
            left = by_lt_z rect.x1 (row.at.x +ℤ pos (k + 1) *ℤ size.width) (λ left. left)
                (λ right. let before = (ended k).1 right in absurd (omega (arith, before, among.above)));
            right = (begun k).0 among.below;
            bottom = top;
            top = bottom;
          }),
      λ shared.
          let both = overlap_from_shared rect (site_box row size k) shared in
          record {
            above = elim (cases_lt k sites.from) [
              | inl before ↦ let right = (ended k).0 before in absurd (omega (arith, ints, right, both.left))
              | inr from ↦ from
            ];
            below = (begun k).1 both.right;
          },
    )

    -- no site is in the die if the row isn't along y
    pub none_inside : (die : RectModel) → (row.at.y <ℤ die.y1) ⊎ (die.y2 <ℤ (row.at.y +ℤ size.height)) → AreSitesInside row size die none
    none_inside die beside k = (
      λ among. absurd (omega (arith, among.below)),
      λ inside.
          let bounds = bounds_from_all_squares die (site_box row size k) (site_proper row size area k) inside.1 in
          elim beside [ inl below ↦ absurd (omega (arith, ints, below, bounds.bottom)) | inr above ↦ absurd (omega (arith, ints, above, bounds.top)) ],
    )

    -- in the die are the sites that don't begin before its left edge, but end by its right one
    pub inside_between : (die : RectModel) (from ended count : ℕ) → DoBegin row size die.x1 from → DoEnd row size die.x2 ended
        → ((k : ℕ) → k < count ↔ (pos k <ℤ row.count)) → die.y1 ≤ℤ row.at.y → (row.at.y +ℤ size.height) ≤ℤ die.y2
        → AreSitesInside row size die (record { from = from; end = min ended count })
    inside_between die from ended count begun end counted bottom top k = (
      λ among.
          let in_row : k < count = omega (arith, among.below) in
          let by : k < ended = omega (arith, among.below) in (
            (counted k).0 in_row,
            all_squares_from_bounds die (site_box row size k) (record {
              left = by_lt_z (row.at.x +ℤ pos k *ℤ size.width) die.x1 (λ before. let out = (begun k).1 before in absurd (omega (arith, out, among.above)))
                  (λ left. left);
              right = (end k).0 by;
              bottom = bottom;
              top = top;
            }),
          ),
      λ inside.
          let bounds = bounds_from_all_squares die (site_box row size k) (site_proper row size area k) inside.1 in
          let in_row = (counted k).1 inside.0 in
          let by = (end k).1 bounds.right in
          record {
            above = elim (cases_lt k from) [
              | inl before ↦ let left = (begun k).0 before in absurd (omega (arith, ints, left, bounds.left))
              | inr above ↦ above
            ];
            below = omega (arith, in_row, by);
          },
    )
