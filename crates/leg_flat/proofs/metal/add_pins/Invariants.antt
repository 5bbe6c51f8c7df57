use Rattle.std.proofs.Common.{◌≡◌, Some, take}
use Rattle.leg_design_records.specs.Records.{DesignModel}
use Rattle.leg_flat.specs.Steps.Places.{AreNetsOf}
use Rattle.leg_flat.specs.Steps.AddedMetal.{AddsMetal, master_of}
use Rattle.leg_flat.proofs.MoreMetal.{walk}
use Rattle.leg_flat.proofs.MetalWalks.{pin_metal}
use Rattle.leg_flat.proofs.metal.add_pins.Given as goal

abbrev pub invariant-loop-k : goal.invariant-loop-k
invariant-loop-k g l =
    (design : DesignModel) → AreNetsOf design l.nets → master_of design l.component ≡ Some l.master
    → AddsMetal (walk (pin_metal design l.component l.place l.master.size) 0 (take l.k l.master.pins)) l.initial.shapes.items l.shapes.items
