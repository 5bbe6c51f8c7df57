-- None fits in the parts so far.
use Rattle.std.proofs.Common.{◌≤◌, length}
use Rattle.leg_legal_sites.specs.Steps.Parts.{NoneFitsFrom}
use Rattle.leg_legal_sites.proofs.part_search.last_in_parts.Given as goal

abbrev pub invariant-parts : goal.invariant-parts
invariant-parts g l = record { within : l.i ≤ length l.parts; none : NoneFitsFrom l.parts l.many l.most l.i }

abbrev pub decreases-parts : goal.decreases-parts
decreases-parts g l = l.i
