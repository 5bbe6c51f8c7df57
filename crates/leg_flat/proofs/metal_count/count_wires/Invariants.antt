use Rattle.std.proofs.Common.{◌≡◌, ℕ, length, take}
use Rattle.leg_flat.specs.Steps.ShapeCount.{counted}
use Rattle.leg_flat.proofs.MoreMetal.{walk}
use Rattle.leg_flat.proofs.MetalWalks.{wire_metal}
use Rattle.leg_flat.proofs.metal_count.count_wires.Given as goal

abbrev pub invariant-loop-wire : goal.invariant-loop-wire
invariant-loop-wire g l =
    (n piece : ℕ) → l.count ≡ counted l.initial.count (length (walk (wire_metal l.design n) piece (take l.wire-index l.wires)))
