-- Which sites of a row a rectangle meets, and which lie in the die (LEF/DEF 5.8, "Rows", "Site").
use Rattle.std.specs.Prelude.{◌↔◌, ℕ, pos, ◌<◌, ◌≤◌, ◌<ℤ◌}
use Rattle.leg_geom.specs.Plane.{RectModel, ShareSquare}
use Rattle.leg_lib_records.specs.Measure.{ExtentModel}
use Rattle.leg_design_records.specs.declared.records.Row.{Row}
use Rattle.leg_rules.specs.Placement.Sites.{site_box}
use Rattle.leg_legal_sites.specs.declared.stretch.Stretch.{Stretch}
use Rattle.leg_rules.specs.Legalise.Clear.{HasAllSquares}

-- the site of this number is one of the stretch
pub record IsAmong (sites : Stretch) (k : ℕ) : Type 0 where
  pub above : sites.from ≤ k
  pub below : k < sites.end

-- the stretch has exactly the sites that share a unit square with the rectangle, of a row that goes on without end
abbrev pub AreSitesMet : Row → ExtentModel → RectModel → Stretch → Type 0
AreSitesMet row size rect sites = (k : ℕ) → IsAmong sites k ↔ ShareSquare rect (site_box row size k)

-- the stretch has exactly the sites of the row of which each unit square is a unit square of the die
abbrev pub AreSitesInside : Row → ExtentModel → RectModel → Stretch → Type 0
AreSitesInside row size die sites = (k : ℕ) → IsAmong sites k ↔ ((pos k <ℤ row.count) × HasAllSquares die (site_box row size k))
