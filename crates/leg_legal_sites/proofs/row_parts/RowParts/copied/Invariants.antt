-- The parts so far.
use Rattle.std.proofs.Common.{◌≡◌, take}
use Rattle.leg_legal_sites.proofs.row_parts.RowParts.copied.Given as goal

abbrev pub invariant-loop-part : goal.invariant-loop-part
invariant-loop-part g l = l.parts.items ≡ take l.part-index l.part-items
