use Rattle.std.proofs.Common.{◌≡◌, take, fold, min}
use Rattle.leg_print.proofs.wires.lowest_layer.Given as goal

abbrev pub invariant-loop-shape : goal.invariant-loop-shape
invariant-loop-shape l = l.lowest ≡ fold (λ lowest other. min lowest other.layer) l.initial.lowest (take l.shape-index l.others)
