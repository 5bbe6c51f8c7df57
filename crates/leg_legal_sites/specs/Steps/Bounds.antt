-- Bounds of free sites that are made, compared and joined.
use Rattle.std.specs.Prelude.{◌≡◌, ◌⊎◌, ℕ, ◌+◌, ◌<◌, ◌≤◌, ℤ, pos, ◌+ℤ◌, ◌*ℤ◌, ◌≤ℤ◌, min, max, false, List, Option, None, Some}
use Rattle.std.specs.Int.{int_max, int_min}
use Rattle.leg_geom.specs.Gap.{apart}
use Rattle.leg_geom.specs.Plane.{PointModel, RectModel, IsCoordinate}
use Rattle.leg_lib_records.specs.Measure.{ExtentModel}
use Rattle.leg_design_records.specs.declared.records.Row.{Row}
use Rattle.leg_legal_sites.specs.declared.stretch.Stretch.{Stretch}
use Rattle.leg_legal_sites.specs.declared.bounds.Bounds.{Bounds}
use Rattle.leg_legal_sites.specs.declared.candidate.Wanted.{Wanted}
use Rattle.leg_rules.specs.declared.position.Candidate.{Candidate}
use Rattle.leg_legal_sites.specs.Steps.Stretches.{IsFreeSite}
use Rattle.leg_legal_sites.specs.Steps.SiteBounds.{DoBoundSite, DoBound}

-- the free sites begin and end within the limit
pub record AreWithinBounds (row : Row) (size : ExtentModel) (free : List Stretch) : Type 0 where
  pub left : (k : ℕ) → IsFreeSite free k → IsCoordinate (row.at.x +ℤ pos k *ℤ size.width)
  pub right : (k : ℕ) → IsFreeSite free k → IsCoordinate (row.at.x +ℤ pos (k + 1) *ℤ size.width)

-- what the inner bounds bound, the outer ones do
pub record DoCover (outer inner : Bounds) : Type 0 where
  pub least_row : outer.least_row ≤ inner.least_row
  pub least_site : outer.least_site ≤ inner.least_site
  pub most_site : inner.most_site ≤ outer.most_site
  pub low : outer.low ≤ℤ inner.low
  pub high : inner.high ≤ℤ outer.high
  pub top : inner.top ≤ℤ outer.top
  pub left : outer.left ≤ℤ inner.left
  pub right : inner.right ≤ℤ outer.right
  pub corner : outer.corner ≤ℤ inner.corner
  pub longest : inner.longest ≤ outer.longest

-- what both bound, these bounds do
pub record AreOfBoth (a b both : Bounds) : Type 0 where
  pub least_row : both.least_row ≡ max a.least_row b.least_row
  pub least_site : both.least_site ≡ max a.least_site b.least_site
  pub most_site : both.most_site ≡ min a.most_site b.most_site
  pub low : both.low ≡ int_max a.low b.low
  pub high : both.high ≡ int_min a.high b.high
  pub top : both.top ≡ int_min a.top b.top
  pub left : both.left ≡ int_max a.left b.left
  pub right : both.right ≡ int_min a.right b.right
  pub corner : both.corner ≡ int_max a.corner b.corner
  pub longest : both.longest ≡ min a.longest b.longest

-- The new bounds bound free sites of each row of which the old ones bound them, that begins at the x of this one.
abbrev pub DoBoundAlike : Bounds → Row → ExtentModel → List Stretch → Bounds → Type 0
DoBoundAlike old row size free new =
    (number : ℕ) (other : Row) → other.at.x ≡ row.at.x → IsCoordinate other.at.y → ((k : ℕ) → IsFreeSite free k → DoBoundSite old number other size k)
    → DoBound new number other size free

-- the rectangle lies beside all that is bounded
abbrev pub IsBeside : Bounds → RectModel → Type 0
IsBeside bounds rect = (rect.y2 ≤ℤ bounds.low) ⊎ (bounds.top ≤ℤ rect.y1) ⊎ (rect.x2 ≤ℤ bounds.left) ⊎ (bounds.right ≤ℤ rect.x1)

-- no corner of a site that is bounded is nearer to the start than this
abbrev pub IsWithinReach : Bounds → PointModel → ℕ → Type 0
IsWithinReach bounds start far =
    (x y : ℤ) → bounds.low ≤ℤ y → y ≤ℤ bounds.high → bounds.left ≤ℤ x → x ≤ℤ bounds.right → bounds.corner ≤ℤ (x +ℤ y) → far ≤ apart x start.x + apart y start.y

-- no row has as many consecutive free sites of the component's site
abbrev pub HasNone : Bounds → Wanted → Type 0
HasNone bounds wanted = (bounds.longest < wanted.many) ⊎ (wanted.site < bounds.least_site) ⊎ (bounds.most_site < wanted.site)

-- a position is better than each that is so far away, in a row of this number or a higher one
abbrev pub IsBetterThan : Candidate → ℕ → ℕ → Type 0
IsBetterThan best far row = (best.distance < far) ⊎ ((best.distance ≡ far) × (best.turned ≡ false) × (best.row < row))

-- that holds of the best position, if there is one, at a distance that none is nearer than
pub record IsBetterThanAll (bounds : Bounds) (wanted : Wanted) (best : Candidate) : Type 0 where
  pub far : ℕ
  pub reach : IsWithinReach bounds wanted.start far
  pub better : IsBetterThan best far bounds.least_row

-- none of the positions in the rows is better than the best one so far
abbrev pub AreNoBetter : Bounds → Wanted → Option Candidate → Type 0
AreNoBetter bounds wanted None = HasNone bounds wanted
AreNoBetter bounds wanted (Some best) = HasNone bounds wanted ⊎ IsBetterThanAll bounds wanted best
