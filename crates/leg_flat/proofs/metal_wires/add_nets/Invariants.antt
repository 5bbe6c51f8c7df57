use Rattle.std.proofs.Common.{take}
use Rattle.leg_flat.specs.Steps.AddedMetal.{AddsMetal}
use Rattle.leg_flat.proofs.MoreMetal.{walk}
use Rattle.leg_flat.proofs.MetalWalks.{net_metal}
use Rattle.leg_flat.proofs.metal_wires.add_nets.Given as goal

abbrev pub invariant-loop-n : goal.invariant-loop-n
invariant-loop-n g l =
    AddsMetal (walk (net_metal l.design) 0 (take l.n l.design.nets)) l.initial.shapes.items l.shapes.items
