-- The groups are so as before.
use Rattle.leg_legal_sites.specs.Steps.Parts.{AreGroups}
use Rattle.leg_legal_sites.proofs.part_groups.measure_groups.Given as goal

abbrev pub invariant-loop-group : goal.invariant-loop-group
invariant-loop-group g l = AreGroups l.parts l.groups
