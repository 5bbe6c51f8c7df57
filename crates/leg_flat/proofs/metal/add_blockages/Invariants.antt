use Rattle.std.proofs.Common.{take}
use Rattle.leg_flat.specs.Steps.AddedMetal.{AddsMetal}
use Rattle.leg_flat.proofs.MoreMetal.{walk}
use Rattle.leg_flat.proofs.MetalWalks.{one_blockage}
use Rattle.leg_flat.proofs.metal.add_blockages.Given as goal

abbrev pub invariant-loop-k : goal.invariant-loop-k
invariant-loop-k g l =
    AddsMetal (walk one_blockage 0 (take l.k l.design.blockages)) l.initial.shapes.items l.shapes.items
