use Rattle.leg_flat.specs.Steps.Places.{AreSpecialNumbers}
use Rattle.leg_flat.proofs.AllNets.{AreNetsBelow}
use Rattle.leg_flat.proofs.nets.nets_of.Given as goal

abbrev pub invariant-loop-n : goal.invariant-loop-n
invariant-loop-n g l = record { below : AreNetsBelow l.design l.n l.nets; special : AreSpecialNumbers l.design l.nets.special }
