use Rattle.std.proofs.Common.{take}
use Rattle.leg_flat.specs.Steps.AddedMetal.{AddsMetal}
use Rattle.leg_flat.proofs.MoreMetal.{walk}
use Rattle.leg_flat.proofs.MetalWalks.{one_component}
use Rattle.leg_flat.proofs.metal.add_components.Given as goal

abbrev pub invariant-loop-c : goal.invariant-loop-c
invariant-loop-c g l =
    AddsMetal (walk (one_component l.design) 0 (take l.c l.design.components)) l.initial.shapes.items l.shapes.items
