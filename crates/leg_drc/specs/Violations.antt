-- Violations of the rules that the layers of a LEF state beside spacing, of one shape, of two, or of a piece of a net (lefdef's own rules).
use Rattle.std.specs.Prelude.{◌≡◌, ℕ, Some, slice_get}
use Rattle.leg_geom.specs.Pairs.{IsPair}
use Rattle.leg_design_records.specs.Records.{DesignModel}
use Rattle.leg_rules.specs.declared.shape.Shape.{Shape}
use Rattle.leg_rules.specs.Metal.Flat.{FlatModel}
use Rattle.leg_drc_rules.specs.Records.{DeckModel}
use Rattle.leg_drc.specs.declared.fault.DrcFault.{DrcFault}
use Rattle.leg_drc.specs.declared.fault.DrcFault.TheVariants.{Supply, MinWidth, Table, CutNear, OffGrid, OutDie}
use Rattle.leg_drc.specs.OneShape.{IsOutOfDie, IsOffGrid, IsTooNarrow}
use Rattle.leg_drc.specs.Table.{AreNearerThanTable}
use Rattle.leg_drc.specs.Cuts.{AreNearCuts}
use Rattle.leg_drc.specs.Supply.{IsCutOffSupply}

-- the flat has a shape of this number, and this holds of it
pub record IsShapeWith (Holds : Shape → Type 0) (flat : FlatModel) (i : ℕ) : Type 0 where
  pub shape : Shape
  pub has_shape : slice_get flat.shapes i ≡ Some shape
  pub holds : Holds shape

-- A violation holds. Shapes are given by their numbers in the flat, of two the lower one first.
pub data IsDrcViolation (design : DesignModel) (deck : DeckModel) (flat : FlatModel) : DrcFault → Type 0 where
  supply : {n k : ℕ} → IsCutOffSupply design flat n k → IsDrcViolation design deck flat (Supply n k)
  min_width : {i : ℕ} → IsShapeWith (IsTooNarrow design deck flat) flat i → IsDrcViolation design deck flat (MinWidth i)
  table : {i j : ℕ} → IsPair (AreNearerThanTable design.library deck) flat.shapes (i, j) → IsDrcViolation design deck flat (Table i j)
  cut_near : {i j : ℕ} → IsPair (AreNearCuts design.library deck) flat.shapes (i, j) → IsDrcViolation design deck flat (CutNear i j)
  off_grid : {i : ℕ} → IsShapeWith (IsOffGrid design deck flat) flat i → IsDrcViolation design deck flat (OffGrid i)
  out_die : {i : ℕ} → IsShapeWith (IsOutOfDie design flat) flat i → IsDrcViolation design deck flat (OutDie i)
