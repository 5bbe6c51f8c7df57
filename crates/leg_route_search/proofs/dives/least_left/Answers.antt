use Rattle.std.proofs.Common.{◌∙◌, arith}
use Rattle.std.proofs.Math.ListN.{length-set}
use Rattle.leg_route_search.proofs.LeastBounds.{now_set, rest_set, low_set}
use Rattle.leg_route_search.proofs.dives.least_left.Goals as goal

pub loop-k-preserved : goal.loop-k-preserved
loop-k-preserved g c =
    let so_far = c.loop-k.invariant in
    let known = c.loop-k.known in
    let k = c.loop-k.k in
    let steps = c.known_now-steps.result in
    let least = c.loop-k.least in
    let long = so_far.one_each in
    record {
      one_each = length-set known k steps ∙ long;
      done = now_set c.args.marks.now c.args.ends.now c.args.known.now known k steps (omega (arith, long))
          (rw (so_far.rest k (omega arith)) at c.known_now-steps.ensures) so_far.done;
      rest = rest_set c.args.known.now known k steps so_far.rest;
      low = low_set known k steps least c.min-least.result (omega (arith, long)) (omega (arith, c.min-least.ensures)) (omega (arith, c.min-least.ensures))
          so_far.low;
    }

pub returns-clause-now : goal.returns-clause-now
returns-clause-now g c = record { one_each = c.loop-k.invariant.one_each; each = λ k within. c.loop-k.invariant.done k (omega (arith, within)) }

pub returns-clause-least : goal.returns-clause-least
returns-clause-least g c k within = c.loop-k.invariant.low k (omega (arith, within))
