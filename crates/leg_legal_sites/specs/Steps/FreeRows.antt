-- Rows of which the lists of free sites are made, or lose the sites that a rectangle meets.
use Rattle.std.specs.Prelude.{◌≡◌, ◌↔◌, ◌⊎◌, ℕ, List, [], length, Some, slice_get, Contains}
use Rattle.leg_geom.specs.Plane.{RectModel, ShareSquare}
use Rattle.leg_lib_records.specs.declared.records.Site.{Site}
use Rattle.leg_design_records.specs.declared.records.Row.{Row}
use Rattle.leg_design_records.specs.Records.{DesignModel}
use Rattle.leg_rules.specs.Placement.Sites.{site_box}
use Rattle.leg_legal_sites.specs.declared.stretch.Stretch.{Stretch}
use Rattle.leg_legal_sites.specs.declared.row_keys.RowKey.{RowKey}
use Rattle.leg_legal_sites.specs.Steps.Stretches.{IsFreeSite}
use Rattle.leg_legal_sites.specs.Steps.ClearSites.{IsFreeList}
use Rattle.leg_legal_sites.specs.Steps.FreeLists.{IsRowAt}
use Rattle.leg_legal_sites.specs.Steps.TreeOfRows.{IsLeafBeneath}

-- as many lists as this, each of which has exactly its row's sites in the die
pub record AreInside (design : DesignModel) (end : ℕ) (lists : List (List Stretch)) : Type 0 where
  pub count : length lists ≡ end
  pub each : (number : ℕ) (row : Row) (site : Site) (list : List Stretch) → IsRowAt design number row site → slice_get lists number ≡ Some list
      → IsFreeList row site.size design.die (Contains []) list

-- of the row of this number those of the free sites are left that share no unit square with the rectangle
abbrev pub LosesMet : DesignModel → RectModel → ℕ → List Stretch → List Stretch → Type 0
LosesMet design rect number old new =
    (row : Row) (site : Site) → IsRowAt design number row site → (k : ℕ) → IsFreeSite new k ↔ (IsFreeSite old k × ¬ ShareSquare rect (site_box row site.size k))

-- a list has lost what the rectangle meets, or is as it was; those of the rows beneath a node have lost it
pub record AreTakenBeneath (design : DesignModel) (rect : RectModel) (order : List RowKey) (node : ℕ) (old new : List (List Stretch)) : Type 0 where
  pub count : length new ≡ length old
  pub each : (number : ℕ) (a b : List Stretch) → slice_get old number ≡ Some a → slice_get new number ≡ Some b → LosesMet design rect number a b ⊎ (b ≡ a)
  pub these : (key : RowKey) (a b : List Stretch) → IsLeafBeneath order node key → slice_get old key.row ≡ Some a → slice_get new key.row ≡ Some b
      → LosesMet design rect key.row a b

-- each list has lost what the rectangle meets
pub record AreTaken (design : DesignModel) (rect : RectModel) (old new : List (List Stretch)) : Type 0 where
  pub count : length new ≡ length old
  pub each : (number : ℕ) (a b : List Stretch) → slice_get old number ≡ Some a → slice_get new number ≡ Some b → LosesMet design rect number a b
