-- The pairs with those near ones that were given so far were taken.
use Rattle.std.proofs.Common.{◌≡◌, ◌++◌, [], get_or}
use Rattle.leg_wire.specs.Steps.NumberSets.{AreGroups, HasGrown}
use Rattle.leg_wire.proofs.NewPairs.{TakesAmong}
use Rattle.leg_wire.proofs.net_joins.join_near.Given as goal

abbrev pub invariant-loop-near : goal.invariant-loop-near
invariant-loop-near g l = record {
  can : (goal.iterator-loop-near g).can_next l.near-iterator;
  ends : (goal.iterator-loop-near g).is_finite l.near-iterator;
  so_far : l.initial.near-iterator ≡ l.yielded ++ l.near-iterator;
  taken : TakesAmong l.metal l.number l.yielded l.fn.groups.sets l.groups.sets l.fn.corners l.corners;
  listed : AreGroups l.groups.sets l.groups.members.items;
  grown : HasGrown (get_or l.fn.groups.members.items 0 []) (get_or l.groups.members.items 0 []);
}
