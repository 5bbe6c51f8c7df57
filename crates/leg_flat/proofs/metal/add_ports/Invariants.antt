use Rattle.std.proofs.Common.{take}
use Rattle.leg_flat.specs.Steps.AddedMetal.{AddsMetal}
use Rattle.leg_flat.proofs.MoreMetal.{walk}
use Rattle.leg_flat.proofs.MetalWalks.{port_metal}
use Rattle.leg_flat.proofs.metal.add_ports.Given as goal

abbrev pub invariant-loop-port : goal.invariant-loop-port
invariant-loop-port g l =
    AddsMetal (walk (port_metal l.belongs) 0 (take l.port-index l.ports)) l.initial.shapes.items l.shapes.items
