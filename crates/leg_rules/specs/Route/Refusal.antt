-- When a design comes to a routing run, and when it has too many shapes (lefdef's own rules).
use Rattle.std.specs.Prelude.{◌<◌, length}
use Rattle.leg_design_records.specs.declared.limits.TheConstants.{PART_LIMIT}
use Rattle.leg_design_records.specs.Records.{DesignModel}
use Rattle.leg_rules.specs.Metal.Metal.{metal_of}
use Rattle.leg_rules.specs.Metal.Flat.{FlatModel}
use Rattle.leg_rules.specs.Route.GridSize.{IsGridTooLarge}
use Rattle.leg_rules.specs.Legal.{IsCleanIn}
use Rattle.leg_rules.specs.Route.Refusals.{HasTooManyShapes}

-- a design in whose flat no violation but open nets holds, and whose grid isn't too large, so that it comes to a routing run
pub record ComesToRun (design : DesignModel) (flat : FlatModel) : Type 0 where
  pub clean : IsCleanIn design flat
  pub fits : ¬ IsGridTooLarge design

-- The design's metal passes the limit of shapes as it is, or a run comes to wires with which it would.
pub data HasTooMany (design : DesignModel) : Type 0 where
  at_first : PART_LIMIT < length (metal_of design) → HasTooMany design
  on_the_way : {flat : FlatModel} → ComesToRun design flat → HasTooManyShapes design flat → HasTooMany design
