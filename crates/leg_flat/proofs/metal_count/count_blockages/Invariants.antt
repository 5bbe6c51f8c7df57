use Rattle.std.proofs.Common.{◌≡◌, length, take}
use Rattle.leg_flat.specs.Steps.ShapeCount.{counted}
use Rattle.leg_flat.proofs.MoreMetal.{walk}
use Rattle.leg_flat.proofs.MetalWalks.{one_blockage}
use Rattle.leg_flat.proofs.metal_count.count_blockages.Given as goal

abbrev pub invariant-loop-blockage : goal.invariant-loop-blockage
invariant-loop-blockage g l =
    l.count ≡ counted l.initial.count (length (walk one_blockage 0 (take l.blockage-index l.design.blockages)))
