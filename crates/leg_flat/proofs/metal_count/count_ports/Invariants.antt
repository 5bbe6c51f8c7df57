use Rattle.std.proofs.Common.{◌≡◌, length, take}
use Rattle.leg_flat.specs.Steps.ShapeCount.{counted}
use Rattle.leg_flat.proofs.MoreMetal.{walk}
use Rattle.leg_flat.proofs.MetalWalks.{port_drawn}
use Rattle.leg_flat.proofs.metal_count.count_ports.Given as goal

abbrev pub invariant-loop-port : goal.invariant-loop-port
invariant-loop-port g l =
    l.count ≡ counted l.initial.count (length (walk port_drawn 0 (take l.port-index l.ports)))
