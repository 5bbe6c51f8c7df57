-- When the router refuses a design (lefdef's own rules): the first cause that holds.
use Rattle.leg_design_records.specs.Records.{DesignModel}
use Rattle.leg_flat.specs.declared.fault.FlatFault.{FlatFault}
use Rattle.leg_flat.specs.declared.fault.FlatFault.TheVariants as flat_fault
use Rattle.leg_rules.specs.Metal.Flat.{FlatModel, IsJudgedBy}
use Rattle.leg_check.specs.declared.fault.CleanFlatFault.{CleanFlatFault}
use Rattle.leg_check.specs.declared.fault.CleanFlatFault.TheVariants as clean_flat
use Rattle.leg_route_grid.specs.declared.fault.GridFault.{GridFault}
use Rattle.leg_route_grid.specs.declared.fault.GridFault.TheVariants as grid_fault
use Rattle.leg_rules.specs.Route.GridSize.{IsGridTooLarge}
use Rattle.leg_rules.specs.Legal.{IsCleanIn}
use Rattle.leg_rules.specs.Route.Refusals.{IsNotClean, IsUnroutable}
use Rattle.leg_route.specs.declared.fault.RouteFault.{RouteFault}
use Rattle.leg_route.specs.declared.fault.RouteFault.TheVariants.{NotClean, GridTooLarge, Unroutable, TooMany, Memory}
use Rattle.leg_rules.specs.Route.Refusal.{ComesToRun, HasTooMany}

-- the first cause of refusal that holds, apart from being out of memory
abbrev pub IsRouteRefusal : {A : Type 0} → DesignModel → RouteFault A → Type 0
IsRouteRefusal design (NotClean faults) = (flat : FlatModel) × IsJudgedBy design flat × IsNotClean design flat faults
IsRouteRefusal design GridTooLarge = ((flat : FlatModel) × IsCleanIn design flat) × IsGridTooLarge design
IsRouteRefusal design (Unroutable net) = (flat : FlatModel) × ComesToRun design flat × IsUnroutable design flat net
IsRouteRefusal design TooMany = HasTooMany design
IsRouteRefusal design Memory = Unit {0}

-- what a refusal to flatten or to add a wire is here, a refusal of the grid, and why there is no clean flat
abbrev pub of_flat : {A : Type 0} → FlatFault → RouteFault A
of_flat flat_fault.TooMany = TooMany
of_flat flat_fault.Memory = Memory

abbrev pub of_grid : {A : Type 0} → GridFault → RouteFault A
of_grid grid_fault.TooLarge = GridTooLarge
of_grid grid_fault.Memory = Memory

abbrev pub of_clean_flat : {A : Type 0} → CleanFlatFault A → RouteFault A
of_clean_flat (clean_flat.NoFlat fault) = of_flat fault
of_clean_flat (clean_flat.NotClean faults) = NotClean faults
