-- The groups so far, and the parts in none, are no longer.
use Rattle.std.proofs.Common.{◌*◌, length}
use Rattle.leg_legal_sites.specs.declared.part_groups.TheConstants.{GROUP}
use Rattle.leg_legal_sites.specs.Steps.Parts.{AreNoLonger}
use Rattle.leg_legal_sites.proofs.part_ends.longest_of_all.Given as goal

abbrev pub invariant-loop-i : goal.invariant-loop-i
invariant-loop-i g l = record {
  first : AreNoLonger l.parts 0 (GROUP * l.i) l.longest;
  rest : AreNoLonger l.parts (GROUP * length l.groups) (length l.parts) l.longest;
}
