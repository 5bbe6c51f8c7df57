-- None fits in the parts so far.
use Rattle.std.proofs.Common.{◌-◌, length}
use Rattle.leg_legal_sites.specs.Steps.Parts.{NoneFitsBefore}
use Rattle.leg_legal_sites.proofs.part_search.first_in_parts.Given as goal

abbrev pub invariant-parts : goal.invariant-parts
invariant-parts g l = NoneFitsBefore l.parts l.many l.least l.i

abbrev pub decreases-parts : goal.decreases-parts
decreases-parts g l = length l.parts - l.i
