-- None of the nets so far is the one.
use Rattle.std.proofs.Common.{◌≢◌}
use Rattle.std.specs.List.{AllWithin}
use Rattle.leg_finish.specs.declared.groups.OpenNet.{OpenNet}
use Rattle.leg_finish.proofs.one_net.open_net.Given as goal

abbrev pub invariant-loop-other : goal.invariant-loop-other
invariant-loop-other g l = AllWithin (λ (other : OpenNet g.row.A.Denot). other.net ≢ l.net) l.nets 0 l.other-index
