-- The pieces of the nets so far that aren't joined are listed.
use Rattle.leg_design_records.specs.Violation.{IsListOf}
use Rattle.leg_wire.proofs.OpenPieces.{HoldsBelow}
use Rattle.leg_wire.proofs.open_fault.open_faults.Given as goal

abbrev pub invariant-loop-net : goal.invariant-loop-net
invariant-loop-net g l = IsListOf (HoldsBelow l.design l.flat l.net) l.found.items
