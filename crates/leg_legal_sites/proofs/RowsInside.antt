-- Rows with nothing in the way: their sites in the die, and their tallest site.
use Rattle.std.proofs.Common.{◌↔◌, ◌≤◌, ◌<◌, ℕ, List, [], Result, Ok, Err, IfOk, Contains, arith}
use Rattle.leg_geom.specs.Plane.{RectModel}
use Rattle.leg_lib_records.specs.Measure.{ExtentModel}
use Rattle.leg_lib_records.specs.declared.records.Site.{Site}
use Rattle.leg_design_records.specs.declared.records.Row.{Row}
use Rattle.leg_design_records.specs.Records.{DesignModel}
use Rattle.leg_legal_sites.specs.declared.stretch.Stretch.{Stretch}
use Rattle.leg_legal_sites.specs.Steps.Stretches.{IsFreeSite}
use Rattle.leg_legal_sites.specs.Steps.RowSites.{AreSitesInside}
use Rattle.leg_legal_sites.specs.Steps.ClearSites.{IsFreeList, NoneTaken}
use Rattle.leg_legal_sites.specs.Steps.FreeLists.{IsRowAt, AreAllInDie}
use Rattle.leg_legal_sites.specs.Steps.FreeRows.{AreInside}
use Rattle.leg_legal_sites.proofs.FreeLists.{free_at_first, free_same}
use Rattle.leg_legal_sites.proofs.TakenRows.{same_row}

no_box : (box : RectModel) → ¬ Contains [] box
no_box box (place, below, is) = absurd (omega (arith, below))

-- a row begins with its sites in the die
pub known_of_none : (row : Row) (size : ExtentModel) (die : RectModel) (sites : Stretch) (free : List Stretch) → AreSitesInside row size die sites
    → ((k : ℕ) → IsFreeSite free k ↔ ((sites.from ≤ k) × (k < sites.end))) → IsFreeList row size die (Contains []) free
known_of_none row size die sites free inside between =
    free_same row size die NoneTaken (Contains []) free (λ box. (λ never. absurd never, λ has. no_box box has))
    (free_at_first row size die sites free inside between)

-- what a list is made of, for the row of this number
pub known_of_row : {E : Type 0} (r : Result (List Stretch) E) (design : DesignModel) (number : ℕ) (row : Row) (site : Site) (sites : Stretch)
    → IsRowAt design number row site → AreSitesInside row site.size design.die sites
    → IfOk r (λ free. (k : ℕ) → IsFreeSite free k ↔ ((sites.from ≤ k) × (k < sites.end)))
    → IfOk r (λ free. (other : Row) (its : Site) → IsRowAt design number other its → IsFreeList other its.size design.die (Contains []) free)
known_of_row (Ok free) design number row site sites at inside between = λ other its is.
    let same = same_row design number row other site its at is in
    rw (same.0, same.1) (known_of_none row site.size design.die sites free inside between)
known_of_row (Err e) design number row site sites at inside none = tt

module _ (design : DesignModel) where
  -- the free sites of all rows lie in the die
  pub inside_die : (end : ℕ) (lists : List (List Stretch)) → AreInside design end lists → AreAllInDie design lists
  inside_die end lists are number list at row site is k free = ((are.each number row site list is at k).0 free).1.inside
