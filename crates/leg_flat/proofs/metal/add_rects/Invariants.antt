use Rattle.std.proofs.Common.{take}
use Rattle.leg_flat.specs.Steps.AddedMetal.{AddsMetal}
use Rattle.leg_flat.proofs.MoreMetal.{walk}
use Rattle.leg_flat.proofs.MetalWalks.{rect_metal}
use Rattle.leg_flat.proofs.metal.add_rects.Given as goal

abbrev pub invariant-loop-rect : goal.invariant-loop-rect
invariant-loop-rect g l =
    AddsMetal (walk (rect_metal l.layer l.belongs) 0 (take l.rect-index l.rects)) l.initial.shapes.items l.shapes.items
