-- The rectangles of the placement blockages so far are listed.
use Rattle.std.proofs.Common.{◌≡◌, map, take}
use Rattle.leg_design_records.specs.Records.{blockage_said, placement_rects}
use Rattle.leg_place.proofs.placement_blockages.placement_rects.Given as goal

abbrev pub invariant-loop-blockage : goal.invariant-loop-blockage
invariant-loop-blockage g l = l.rects.items ≡ placement_rects (map blockage_said (take l.blockage-index l.blockage-items))
