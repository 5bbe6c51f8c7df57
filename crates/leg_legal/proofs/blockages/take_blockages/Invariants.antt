-- The rectangles of the placement blockages so far are taken.
use Rattle.std.proofs.Common.{map, take}
use Rattle.leg_design_records.specs.Records.{blockage_said, placement_rects}
use Rattle.leg_legal.specs.Steps.Boxes.{KnowBlockages}
use Rattle.leg_legal.proofs.blockages.take_blockages.Given as goal

abbrev pub invariant-loop-blockage : goal.invariant-loop-blockage
invariant-loop-blockage g l = KnowBlockages l.design (placement_rects (map blockage_said (take l.blockage-index l.blockage-items))) l.free
