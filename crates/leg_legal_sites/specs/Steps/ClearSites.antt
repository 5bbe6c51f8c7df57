-- What a row's list of free stretches means: it has exactly the sites of the row that are clear (lefdef's own rule).
use Rattle.std.specs.Prelude.{◌≡◌, ◌↔◌, ◌⊎◌, ℕ, pos, ◌+◌, ◌+ℤ◌, ◌*ℤ◌, ◌<ℤ◌, List}
use Rattle.leg_geom.specs.Plane.{RectModel}
use Rattle.leg_lib_records.specs.Measure.{ExtentModel}
use Rattle.leg_design_records.specs.declared.records.Row.{Row}
use Rattle.leg_rules.specs.Placement.Sites.{site_box}
use Rattle.leg_legal_sites.specs.Steps.Stretches.{IsFreeSite}
use Rattle.leg_legal_sites.specs.declared.stretch.Stretch.{Stretch}
use Rattle.leg_rules.specs.Legalise.Clear.{IsClear}

-- the free stretches have exactly the sites of the row that are clear
abbrev pub IsFreeList : Row → ExtentModel → RectModel → (RectModel → Type 0) → List Stretch → Type 0
IsFreeList row size die Taken free = (k : ℕ) → IsFreeSite free k ↔ ((pos k <ℤ row.count) × IsClear die Taken (site_box row size k))

-- no box is in the way
abbrev pub NoneTaken : RectModel → Type 0
NoneTaken other = ⊥

-- a box is in the way if it did, or is the one that is taken now
abbrev pub TakenAnd : (RectModel → Type 0) → RectModel → RectModel → Type 0
TakenAnd Taken box other = Taken other ⊎ (other ≡ box)

-- the box of this many consecutive sites of the row, from the first on
abbrev pub sites_box : Row → ExtentModel → ℕ → ℕ → RectModel
sites_box row size first many =
    record { x1 = row.at.x +ℤ pos first *ℤ size.width; y1 = row.at.y; x2 = row.at.x +ℤ pos (first + many) *ℤ size.width; y2 = row.at.y +ℤ size.height }
