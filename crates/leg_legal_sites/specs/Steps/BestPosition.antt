-- The best free position of a component (lefdef's own rule).
use Rattle.std.specs.Prelude.{◌≡◌, ◌↔◌, ◌⊎◌, ℕ, pos, IsTrue, ◌+◌, ◌≤◌, ◌≤ℤ◌, ◌+ℤ◌, ◌*ℤ◌, List, length, Option, None, Some, slice_get}
use Rattle.leg_geom.specs.Gap.{apart}
use Rattle.leg_geom.specs.Plane.{IsCoordinate}
use Rattle.leg_design_records.specs.declared.records.Row.{Row}
use Rattle.leg_legal_sites.specs.declared.stretch.Stretch.{Stretch}
use Rattle.leg_legal_sites.specs.declared.candidate.Wanted.{Wanted}
use Rattle.leg_rules.specs.declared.position.Candidate.{Candidate}
use Rattle.leg_legal_sites.specs.Steps.Stretches.{IsFreeSite, AreFreeSites}
use Rattle.leg_rules.specs.Legalise.Preference.{IsTurned, IsNoWorse}

-- There is a list of free sites for each row. The component takes a site at least, sites have a width, and where a free
-- site of a row of its site begins is within the limit of coordinates.
pub record AreReady (rows : List Row) (free : List (List Stretch)) (wanted : Wanted) : Type 0 where
  pub lists : length free ≡ length rows
  pub some : 1 ≤ wanted.many
  pub wide : pos 1 ≤ℤ wanted.site_width
  pub within : (number : ℕ) (row : Row) (stretches : List Stretch) → slice_get rows number ≡ Some row → row.site ≡ wanted.site
      → slice_get free number ≡ Some stretches → (k : ℕ) → IsFreeSite stretches k → IsCoordinate (row.at.x +ℤ pos k *ℤ wanted.site_width)

-- The component may be placed there: the row is one of its site, and the sites from the first on are free. Its distance is
-- measured along both axes, from its start to the lower left corner of the first site.
pub record IsCandidate (rows : List Row) (free : List (List Stretch)) (wanted : Wanted) (c : Candidate) : Type 0 where
  pub row : Row
  pub there : slice_get rows c.row ≡ Some row
  pub same : row.site ≡ wanted.site
  pub stretches : List Stretch
  pub known : slice_get free c.row ≡ Some stretches
  pub sites : AreFreeSites stretches wanted.many c.first
  pub distance : c.distance ≡ apart (row.at.x +ℤ pos c.first *ℤ wanted.site_width) wanted.start.x + apart row.at.y wanted.start.y
  pub turned : IsTrue c.turned ↔ IsTurned row.orient wanted.y_symmetric wanted.orient

-- the best of the positions with a property, or that there is none
abbrev pub IsBestOf : (Candidate → Type 0) → Option Candidate → Type 0
IsBestOf P None = (d : Candidate) → ¬ P d
IsBestOf P (Some c) = P c × ((d : Candidate) → P d → IsNoWorse c d)

-- the better one of two positions, where there are any
abbrev pub IsBetterOf : Option Candidate → Option Candidate → Option Candidate → Type 0
IsBetterOf None b r = r ≡ b
IsBetterOf (Some c) None r = r ≡ Some c
IsBetterOf (Some c) (Some d) r = ((r ≡ Some c) × IsNoWorse c d) ⊎ ((r ≡ Some d) × IsNoWorse d c)
