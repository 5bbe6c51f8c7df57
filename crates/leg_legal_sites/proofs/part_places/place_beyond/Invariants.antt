-- The place lies between both.
use Rattle.std.proofs.Common.{◌-◌, ◌≤◌, length}
use Rattle.leg_legal_sites.specs.Steps.Parts.{LieBeyond}
use Rattle.leg_legal_sites.proofs.part_places.place_beyond.Given as goal

abbrev pub invariant-halves : goal.invariant-halves
invariant-halves g l = record { beyond : LieBeyond l.parts l.high l.site; order : l.low ≤ l.high; within : l.high ≤ length l.parts }

abbrev pub decreases-halves : goal.decreases-halves
decreases-halves g l = l.high - l.low
