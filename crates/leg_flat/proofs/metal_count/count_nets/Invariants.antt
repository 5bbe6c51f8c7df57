use Rattle.std.proofs.Common.{◌≡◌, length, take}
use Rattle.leg_flat.specs.Steps.ShapeCount.{counted}
use Rattle.leg_flat.proofs.MoreMetal.{walk}
use Rattle.leg_flat.proofs.MetalWalks.{net_metal, one_special}
use Rattle.leg_flat.proofs.metal_count.count_nets.Given as goal

abbrev pub invariant-loop-net : goal.invariant-loop-net
invariant-loop-net g l = record {
  regular : l.count ≡ counted l.initial.count (length (walk (net_metal l.design) 0 (take l.net-index l.nets)));
  special : l.count ≡ counted l.initial.count (length (walk (one_special l.design) 0 (take l.net-index l.nets)));
}
