-- The groups so far.
use Rattle.std.proofs.Common.{◌≡◌, length}
use Rattle.leg_legal_sites.specs.Steps.Parts.{AreGroups}
use Rattle.leg_legal_sites.proofs.part_groups.groups_of.Given as goal

abbrev pub invariant-loop-group : goal.invariant-loop-group
invariant-loop-group g l = record { count : length l.groups.items ≡ l.group; are : AreGroups l.parts l.groups.items }
