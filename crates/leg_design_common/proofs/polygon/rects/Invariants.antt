use Rattle.std.proofs.Common.{◌≡◌, take}
use Rattle.leg_design_common.proofs.polygon.rects.Given as goal

abbrev pub invariant-slabs : goal.invariant-slabs
invariant-slabs g l = l.rects.items ≡ take l.slab-index l.slabs
