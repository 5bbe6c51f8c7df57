use Rattle.std.proofs.Common.{◌≡◌, length, take}
use Rattle.leg_flat.specs.Steps.ShapeCount.{counted}
use Rattle.leg_flat.proofs.MoreMetal.{walk}
use Rattle.leg_flat.proofs.MetalWalks.{design_pin_metal}
use Rattle.leg_flat.proofs.metal_count.count_design_pins.Given as goal

abbrev pub invariant-loop-pin : goal.invariant-loop-pin
invariant-loop-pin g l =
    l.count ≡ counted l.initial.count (length (walk (design_pin_metal l.design) 0 (take l.pin-index l.design.pins)))
