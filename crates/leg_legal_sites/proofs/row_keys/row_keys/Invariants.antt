-- The keys of the rows so far.
use Rattle.leg_legal_sites.specs.Steps.RowKeys.{AreKeysBelow}
use Rattle.leg_legal_sites.proofs.row_keys.row_keys.Given as goal

abbrev pub invariant-loop-i : goal.invariant-loop-i
invariant-loop-i g l = AreKeysBelow l.rows l.i l.keys.items
