use Rattle.std.proofs.Common.{take}
use Rattle.leg_flat.specs.Steps.AddedMetal.{AddsMetal}
use Rattle.leg_flat.proofs.MoreMetal.{walk}
use Rattle.leg_flat.proofs.MetalWalks.{design_pin_metal}
use Rattle.leg_flat.proofs.metal.add_design_pins.Given as goal

abbrev pub invariant-loop-p : goal.invariant-loop-p
invariant-loop-p g l =
    AddsMetal (walk (design_pin_metal l.design) 0 (take l.p l.design.pins)) l.initial.shapes.items l.shapes.items
