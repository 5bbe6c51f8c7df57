-- What a row's list of free stretches means, at first and once a rectangle is taken away.
use Rattle.std.proofs.Common.{◌↔◌, ◌⊎◌, ℕ, ◌<◌, ◌≤◌, List, inl, inr, arith}
use Rattle.std.proofs.lemmas.Bool.{cases_lt}
use Rattle.leg_geom.specs.Plane.{RectModel}
use Rattle.leg_lib_records.specs.Measure.{ExtentModel}
use Rattle.leg_design_records.specs.declared.records.Row.{Row}
use Rattle.leg_rules.specs.Placement.Sites.{site_box}
use Rattle.leg_legal_sites.specs.declared.stretch.Stretch.{Stretch}
use Rattle.leg_legal_sites.specs.Steps.Stretches.{IsFreeSite}
use Rattle.leg_legal_sites.specs.Steps.RowSites.{IsAmong, AreSitesInside}
use Rattle.leg_rules.specs.Legalise.Clear.{HasAllSquares, IsClear}
use Rattle.leg_legal_sites.specs.Steps.ClearSites.{IsFreeList, NoneTaken}

-- a site before the stretch or behind it is none of it
pub outside : (sites : Stretch) (k : ℕ) → (k < sites.from) ⊎ (sites.end ≤ k) → ¬ IsAmong sites k
outside sites k (inl before) among = absurd (omega (arith, before, among.above))
outside sites k (inr behind) among = absurd (omega (arith, behind, among.below))

-- a stretch has the site, or it lies before or behind
pub beside : (sites : Stretch) (k : ℕ) → ¬ IsAmong sites k → (k < sites.from) ⊎ (sites.end ≤ k)
beside sites k never =
    elim (cases_lt k sites.from) [
      | inl before ↦ inl before
      | inr from ↦ elim (cases_lt k sites.end) [
        | inl below ↦ absurd (never (record { above = from; below = below }))
        | inr behind ↦ inr behind
      ]
    ]

module _ (row : Row) (size : ExtentModel) (die : RectModel) where
  -- with nothing taken, a site is clear where the die has its unit squares
  clear_inside : (box : RectModel) → HasAllSquares die box → IsClear die NoneTaken box
  clear_inside box inside = record { inside = inside; alone = λ other never. absurd never }

  -- a row begins with its sites in the die
  pub free_at_first : (sites : Stretch) (free : List Stretch) → AreSitesInside row size die sites
      → ((k : ℕ) → IsFreeSite free k ↔ ((sites.from ≤ k) × (k < sites.end))) → IsFreeList row size die NoneTaken free
  free_at_first sites free inside begun k = (
    λ site.
        let among = (begun k).0 site in
        let within = (inside k).0 (record { above = among.0; below = among.1 }) in
        (within.0, clear_inside (site_box row size k) within.1),
    λ clear. let among = (inside k).1 (clear.0, clear.1.inside) in (begun k).1 (among.above, among.below),
  )

  -- the list says the same of boxes that are taken by another description
  pub free_same : (Taken Others : RectModel → Type 0) (free : List Stretch) → ((box : RectModel) → Taken box ↔ Others box) → IsFreeList row size die Taken free
      → IsFreeList row size die Others free
  free_same Taken Others free same known k = (
    λ site. let was = (known k).0 site in (was.0, record { inside = was.1.inside; alone = λ other taken. was.1.alone other ((same other).1 taken) }),
    λ clear. (known k).1 (clear.0, record { inside = clear.1.inside; alone = λ other taken. clear.1.alone other ((same other).0 taken) }),
  )
