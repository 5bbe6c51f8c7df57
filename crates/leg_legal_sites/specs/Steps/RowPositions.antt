-- The positions in one row, in the rows around the start, and in those that lie beneath a node of the tree.
use Rattle.std.specs.Prelude.{◌≡◌, ◌≢◌, ◌⊎◌, ℕ, ◌+◌, ◌-◌, ◌<◌, ◌≤◌, ◌≤ℤ◌, Bool, ◌&&◌, ◌||◌, ◌==◌, nat_lt, int_lt, List, length, Option, None, Some, slice_get}
use Rattle.leg_geom.specs.Gap.{apart}
use Rattle.leg_design_records.specs.declared.records.Row.{Row}
use Rattle.leg_legal_sites.specs.declared.stretch.Stretch.{Stretch}
use Rattle.leg_legal_sites.specs.declared.candidate.Wanted.{Wanted}
use Rattle.leg_rules.specs.declared.position.Candidate.{Candidate}
use Rattle.leg_legal_sites.specs.declared.row_keys.RowKey.{RowKey}
use Rattle.leg_legal_sites.specs.Steps.BestPosition.{IsCandidate}
use Rattle.leg_legal_sites.specs.Steps.TreeOfRows.{IsLeafBeneath}

-- the component may be placed there, and it is in the row of this number
pub record IsCandidateOf (rows : List Row) (free : List (List Stretch)) (wanted : Wanted) (number : ℕ) (c : Candidate) : Type 0 where
  pub candidate : IsCandidate rows free wanted c
  pub row : c.row ≡ number

-- it may, and it is in a row beneath a node
pub record IsCandidateBeneath (rows : List Row) (order : List RowKey) (free : List (List Stretch)) (wanted : Wanted) (node : ℕ) (c : Candidate) : Type 0 where
  pub candidate : IsCandidate rows free wanted c
  pub key : RowKey
  pub leaf : IsLeafBeneath order node key
  pub row : key.row ≡ c.row

-- that holds of a position, or it is the best one of those before
abbrev pub IsBestOrBeneath : List Row → List RowKey → List (List Stretch) → Wanted → ℕ → Option Candidate → Candidate → Type 0
IsBestOrBeneath rows order free wanted node best c = IsCandidateBeneath rows order free wanted node c ⊎ (best ≡ Some c)

-- the row is of a site of a lower number than the component's, or of its site and lies below the start
abbrev pub is_lower : RowKey → Wanted → Bool
is_lower key wanted = nat_lt key.site wanted.site || ((key.site == wanted.site) && int_lt key.y wanted.start.y)

-- the rows before low are of lower sites, or of the component's and lie at the start's y or below; those from high on are of higher
-- sites, or of the component's and lie at the start's y or above
pub record IsSplitAt (order : List RowKey) (wanted : Wanted) (low high : ℕ) : Type 0 where
  pub in_order : low ≤ high
  pub within : high ≤ length order
  pub lower : (k : ℕ) (key : RowKey) → k < low → slice_get order k ≡ Some key
      → (key.site < wanted.site) ⊎ ((key.site ≡ wanted.site) × (key.y ≤ℤ wanted.start.y))
  pub upper : (k : ℕ) (key : RowKey) → high ≤ k → slice_get order k ≡ Some key
      → (wanted.site < key.site) ⊎ ((key.site ≡ wanted.site) × (wanted.start.y ≤ℤ key.y))

-- there is a position, and it is nearer than this
abbrev pub IsNearerThan : Option Candidate → ℕ → Type 0
IsNearerThan None far = ⊥
IsNearerThan (Some c) far = c.distance < far

-- the row is of another site than the component's, or the best position is nearer than any in it
abbrev pub IsRowBeyond : Wanted → Option Candidate → RowKey → Type 0
IsRowBeyond wanted best key = (key.site ≢ wanted.site) ⊎ IsNearerThan best (apart key.y wanted.start.y)

-- the place is next to those in between, or the rows on both sides of these have no better position than the best one
abbrev pub IsNextPlace : List RowKey → Wanted → Option Candidate → ℕ → ℕ → Option ℕ → Type 0
IsNextPlace order wanted best low high None =
    ((key : RowKey) → 1 ≤ low → slice_get order (low - 1) ≡ Some key → IsRowBeyond wanted best key)
    × ((key : RowKey) → slice_get order high ≡ Some key → IsRowBeyond wanted best key)
IsNextPlace order wanted best low high (Some place) = ((place + 1 ≡ low) ⊎ (place ≡ high)) × (place < length order)
