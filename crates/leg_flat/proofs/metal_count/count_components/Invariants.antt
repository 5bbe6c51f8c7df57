use Rattle.std.proofs.Common.{◌≡◌, length, take}
use Rattle.leg_flat.specs.Steps.ShapeCount.{counted}
use Rattle.leg_flat.proofs.MoreMetal.{walk}
use Rattle.leg_flat.proofs.MetalWalks.{one_component}
use Rattle.leg_flat.proofs.metal_count.count_components.Given as goal

abbrev pub invariant-loop-component : goal.invariant-loop-component
invariant-loop-component g l =
    l.count ≡ counted l.initial.count (length (walk (one_component l.design) 0 (take l.component-index l.design.components)))
