-- The kinds of violations, and what each names.
use Rattle.std.specs.Prelude.{ℕ}
use Rattle.leg_design_records.specs.Records.{DesignModel}
use Rattle.leg_rules.specs.declared.shape.Shape.{Shape}
use Rattle.leg_rules.specs.Metal.Flat.{FlatModel}
use Rattle.leg_drc_rules.specs.Records.{DeckModel}
use Rattle.leg_drc.specs.declared.fault.DrcFault.{DrcFault}
use Rattle.leg_drc.specs.declared.fault.DrcFault.TheVariants as faults
use Rattle.leg_drc.specs.declared.shape_kind.ShapeKind.{ShapeKind}
use Rattle.leg_drc.specs.declared.shape_kind.ShapeKind.TheVariants.{MinWidth, OffGrid, OutDie}
use Rattle.leg_drc.specs.declared.pair_kind.PairKind.{PairKind}
use Rattle.leg_drc.specs.declared.pair_kind.PairKind.TheVariants.{Supply, Table, CutNear}
use Rattle.leg_drc.specs.OneShape.{IsOutOfDie, IsOffGrid, IsTooNarrow}

-- this is wrong with the shape by itself
abbrev pub IsWrongShape : ShapeKind → DesignModel → DeckModel → FlatModel → Shape → Type 0
IsWrongShape MinWidth design deck flat shape = IsTooNarrow design deck flat shape
IsWrongShape OffGrid design deck flat shape = IsOffGrid design deck flat shape
IsWrongShape OutDie design deck flat shape = IsOutOfDie design flat shape

-- the violation of this kind of the shape of this number
abbrev pub shape_fault : ShapeKind → ℕ → DrcFault
shape_fault MinWidth i = faults.MinWidth i
shape_fault OffGrid i = faults.OffGrid i
shape_fault OutDie i = faults.OutDie i

-- the violation of this kind that names these numbers
abbrev pub pair_fault : PairKind → ℕ → ℕ → DrcFault
pair_fault Supply n k = faults.Supply n k
pair_fault Table i j = faults.Table i j
pair_fault CutNear i j = faults.CutNear i j
