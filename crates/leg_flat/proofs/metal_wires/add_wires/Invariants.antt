use Rattle.std.proofs.Common.{take}
use Rattle.leg_flat.specs.Steps.AddedMetal.{AddsMetal}
use Rattle.leg_flat.proofs.MoreMetal.{walk}
use Rattle.leg_flat.proofs.MetalWalks.{wire_metal}
use Rattle.leg_flat.proofs.metal_wires.add_wires.Given as goal

abbrev pub invariant-loop-i : goal.invariant-loop-i
invariant-loop-i g l =
    AddsMetal (walk (wire_metal l.design l.net) l.first (take l.i l.wires)) l.initial.shapes.items l.shapes.items
