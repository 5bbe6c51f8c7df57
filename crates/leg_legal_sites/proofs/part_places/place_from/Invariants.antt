-- The place lies between both.
use Rattle.std.proofs.Common.{◌-◌, ◌≤◌, length}
use Rattle.leg_legal_sites.specs.Steps.Parts.{LieBefore}
use Rattle.leg_legal_sites.proofs.part_places.place_from.Given as goal

abbrev pub invariant-halves : goal.invariant-halves
invariant-halves g l = record { before : LieBefore l.parts l.low l.site; order : l.low ≤ l.high; within : l.high ≤ length l.parts }

abbrev pub decreases-halves : goal.decreases-halves
decreases-halves g l = l.high - l.low
