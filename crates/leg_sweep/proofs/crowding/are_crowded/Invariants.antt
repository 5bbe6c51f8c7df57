-- A look a try, at most.
use Rattle.std.proofs.Common.{◌≡◌, ◌≤◌}
use Rattle.leg_sweep.proofs.crowding.are_crowded.Given as goal

abbrev pub invariant-loop : goal.invariant-loop
invariant-loop g l =
    let rule = g.R.PairRule in record {
      near : l.near ≤ l.counter;
      looks : rule.looks_of l.rule ≤ l.counter;
      tests : rule.tests_of l.rule ≡ rule.tests_of l.fn.rule;
      same : rule.fixed l.rule ≡ rule.fixed l.fn.rule;
    }
