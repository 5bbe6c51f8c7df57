use Rattle.std.proofs.Common.{take}
use Rattle.leg_flat.specs.Steps.AddedMetal.{AddsMetal}
use Rattle.leg_flat.proofs.MoreMetal.{walk}
use Rattle.leg_flat.proofs.MetalWalks.{shifted_metal}
use Rattle.leg_flat.proofs.metal_parts.add_shifted.Given as goal

abbrev pub invariant-loop-shape : goal.invariant-loop-shape
invariant-loop-shape g l =
    AddsMetal (walk (shifted_metal l.at l.belongs) 0 (take l.shape-index l.point_shapes)) l.initial.shapes.items l.shapes.items
