-- An aim for each group so far.
use Rattle.std.proofs.Common.{◌≡◌, length}
use Rattle.leg_finish_search.proofs.tree.Tree.new.Given as goal

abbrev pub invariant-loop-group : goal.invariant-loop-group
invariant-loop-group g l = length l.aims.items ≡ l.group-index
