-- When a design is not finished (lefdef's own rules): the first cause that holds.
use Rattle.std.specs.Prelude.{◌<◌, length}
use Rattle.leg_design_records.specs.declared.limits.TheConstants.{PART_LIMIT}
use Rattle.leg_design_records.specs.Records.{DesignModel}
use Rattle.leg_flat.specs.declared.fault.FlatFault.TheVariants as flat_fault
use Rattle.leg_rules.specs.Metal.Metal.{metal_of}
use Rattle.leg_rules.specs.Metal.Flat.{FlatModel, IsJudgedBy}
use Rattle.leg_check.specs.declared.fault.CleanFlatFault.{CleanFlatFault}
use Rattle.leg_check.specs.declared.fault.CleanFlatFault.TheVariants as clean_flat
use Rattle.leg_route_grid.specs.declared.fault.GridFault.{GridFault}
use Rattle.leg_route_grid.specs.declared.fault.GridFault.TheVariants as grid_fault
use Rattle.leg_rules.specs.declared.grid_limits.TheConstants.{GREATEST_GRID}
use Rattle.leg_rules.specs.Route.GridSize.{IsGridBeyond}
use Rattle.leg_rules.specs.Route.Refusals.{IsNotClean}
use Rattle.leg_rules.specs.Legal.{IsCleanIn}
use Rattle.leg_rules.specs.Finish.Reach.{IsFirstUnreachable}
use Rattle.leg_finish.specs.declared.fault.FinishFault.{FinishFault}
use Rattle.leg_finish.specs.declared.fault.FinishFault.TheVariants.{NotClean, GridTooLarge, Unreachable, Unfinished, TooMany, Memory}
use Rattle.leg_rules.specs.Finish.Refusal.{ComesToSearch, AreUnfinished}

-- the first cause of refusal that holds, apart from being out of memory
abbrev pub IsFinishRefusal : {A : Type 0} → DesignModel → FinishFault A → Type 0
IsFinishRefusal design (NotClean faults) = (flat : FlatModel) × IsJudgedBy design flat × IsNotClean design flat faults
IsFinishRefusal design GridTooLarge = ((flat : FlatModel) × IsCleanIn design flat) × IsGridBeyond GREATEST_GRID design
IsFinishRefusal design (Unreachable net piece) = (flat : FlatModel) × ComesToSearch design flat × IsFirstUnreachable design flat net piece
IsFinishRefusal design (Unfinished nets) = (flat : FlatModel) × ComesToSearch design flat × AreUnfinished design flat nets
IsFinishRefusal design TooMany = PART_LIMIT < length (metal_of design)
IsFinishRefusal design Memory = Unit {0}

-- what a refusal of the grid is here, and why there is no clean flat
abbrev pub of_grid : {A : Type 0} → GridFault → FinishFault A
of_grid grid_fault.TooLarge = GridTooLarge
of_grid grid_fault.Memory = Memory

abbrev pub of_clean_flat : {A : Type 0} → CleanFlatFault A → FinishFault A
of_clean_flat (clean_flat.NoFlat flat_fault.TooMany) = TooMany
of_clean_flat (clean_flat.NoFlat flat_fault.Memory) = Memory
of_clean_flat (clean_flat.NotClean faults) = NotClean faults
