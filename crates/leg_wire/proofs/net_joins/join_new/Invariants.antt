-- The pairs with the new shapes so far were taken.
use Rattle.std.proofs.Common.{◌≡◌, ◌≤◌, [], get_or, length}
use Rattle.leg_wire.specs.Steps.Joins.{TakesNew}
use Rattle.leg_wire.specs.Steps.NumberSets.{AreGroups, HasGrown}
use Rattle.leg_wire.proofs.net_joins.join_new.Given as goal

abbrev pub invariant-loop-number : goal.invariant-loop-number
invariant-loop-number g l = record {
  begun : length l.index ≤ l.number;
  within : l.number ≤ length l.metal;
  taken : TakesNew l.metal (length l.index) (length l.index) l.number l.fn.groups.sets l.groups.sets l.initial.corners l.corners;
  count : length l.groups.sets ≡ length l.fn.groups.sets;
  listed : AreGroups l.groups.sets l.groups.members.items;
  grown : HasGrown (get_or l.fn.groups.members.items 0 []) (get_or l.groups.members.items 0 []);
}
