use Rattle.std.proofs.Common.{◌≡◌, ℕ, length, take}
use Rattle.leg_geom.specs.declared.place.Place.{Place}
use Rattle.leg_lib_records.specs.Measure.{ExtentModel}
use Rattle.leg_design_records.specs.Records.{DesignModel}
use Rattle.leg_flat.specs.Steps.ShapeCount.{counted}
use Rattle.leg_flat.proofs.MoreMetal.{walk}
use Rattle.leg_flat.proofs.MetalWalks.{pin_metal}
use Rattle.leg_flat.proofs.metal_count.count_pins.Given as goal

abbrev pub invariant-loop-pin : goal.invariant-loop-pin
invariant-loop-pin g l =
    (design : DesignModel) (c : ℕ) (place : Place) (size : ExtentModel)
    → l.count ≡ counted l.initial.count (length (walk (pin_metal design c place size) 0 (take l.pin-index l.pins)))
