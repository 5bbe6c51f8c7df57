use Rattle.std.proofs.Common.{take}
use Rattle.leg_flat.specs.Steps.AddedMetal.{AddsMetal}
use Rattle.leg_flat.proofs.MoreMetal.{walk}
use Rattle.leg_flat.proofs.MetalWalks.{drawn_metal}
use Rattle.leg_flat.proofs.metal_parts.add_drawn.Given as goal

abbrev pub invariant-loop-shape : goal.invariant-loop-shape
invariant-loop-shape g l =
    AddsMetal (walk (drawn_metal l.place (record { width = l.width; height = l.height }) l.belongs) 0 (take l.shape-index l.box_shapes))
    l.initial.shapes.items l.shapes.items
