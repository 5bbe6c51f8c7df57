use Rattle.std.proofs.Common.{◌≡◌, ℕ, ◌+◌, ◌-◌, ◌≤◌, length, refl, ◌∙◌, arith}
use Rattle.leg_geom.specs.Pairs.{IsPair}
use Rattle.leg_sweep.specs.Counts.{near_on_layer}
use Rattle.leg_sweep.proofs.FewPairs.{found_below_none, found_below_more, found_below_all, pairs_grow, looks_more}
use Rattle.leg_sweep.proofs.few.few_pairs.Goals as goal

pub loop-new-init : goal.loop-new-init
loop-new-init g c =
    let rule = g.R.PairRule in
    record {
      found = rw c.requires.untested (found_below_none g.S.PairSink.Takes (IsPair (rule.Holds (rule.fixed c.args.rule.now)) c.args.items.now) c.args.sink.now);
      tests = c.requires.untested;
      looks = omega (arith, c.requires.unseen);
      counts = omega (arith, c.requires.untested);
      same = refl;
      same_room = refl;
    }

pub loop-new-preserved : goal.loop-new-preserved
loop-new-preserved g c =
    let rule = g.R.PairRule in
    let layered = g.R.LayeredRule in
    let fixed = rule.fixed c.args.rule.now in
    let items = c.args.items.now in
    let n : ℕ = c.loop-new.new in
    let so_far = c.loop-new.invariant in
    let met = c.in_ok-meet_earlier.ensures in
    let was : ℕ = rule.tests_of c.loop-new.rule in
    let now : ℕ = rule.tests_of c.meet_earlier.new.rule in
    let found = rw so_far.same at met.found in
    let tests = rw so_far.same at met.tests in
    let near = near_on_layer (rule.rect_of fixed) (layered.layer_of fixed) (layered.layer_reach_of fixed) in
    let grown : was + (now - was) ≤ now = omega (arith, tests, pairs_grow near items n (omega arith)) in
    record {
      found =
          found_below_more g.S.PairSink.Takes (IsPair (rule.Holds fixed) items) c.args.sink.now n was (now - was) now c.loop-new.sink c.meet_earlier.new.sink
          (λ p h. h.in_order) grown so_far.found found;
      tests = omega (arith, tests, so_far.tests);
      looks = looks_more (rule.looks_of c.loop-new.rule) (rule.looks_of c.meet_earlier.new.rule) n so_far.looks met.looks;
      counts = met.counts;
      same = c.meet_earlier.ensures.same ∙ so_far.same;
      same_room = c.meet_earlier.ensures.same_room ∙ so_far.same_room;
    }

pub returns-clause-pairs : goal.returns-clause-pairs
returns-clause-pairs g c =
    let rule = g.R.PairRule in
    let end : c.loop-new.new ≡ length c.args.items.now = omega arith in
    found_below_all g.S.PairSink.Takes (rule.Holds (rule.fixed c.args.rule.now)) c.args.items.now
    (rule.tests_of c.loop-new.rule) c.args.sink.now c.loop-new.sink (rw end at c.loop-new.invariant.found)
