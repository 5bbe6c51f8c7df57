use Rattle.std.proofs.Common.{◌≡◌, ◌≢◌, ℕ, ◌+◌, ◌-◌, ◌<◌, ◌==◌, cond, length, Some, slice_get, Contains, refl, ◌∙◌, arith}
use Rattle.std.specs.List.{range_with_len}
use Rattle.std.proofs.lemmas.Bool.{both_ways}
use Rattle.std.proofs.lemmas.List.Sums.{sum_by_more}
use Rattle.std.proofs.lemmas.Option.{slice_get_read}
use Rattle.leg_lemmas.proofs.Ranges.{range_more}
use Rattle.leg_geom.specs.Pairs.{IsPair}
use Rattle.leg_sweep.specs.Counts.{near_along_both, near_on_layer}
use Rattle.leg_sweep.specs.Steps.Sweep.{ordered}
use Rattle.leg_sweep.proofs.FewPairs.{number_below, pairs_more, cond_both, cond_once}
use Rattle.leg_sweep.proofs.Turns.{ordered_below, new_pairs_none, new_pairs_skip, new_pairs_more, pair_from_holds, holds_from_pair}
use Rattle.leg_sweep.proofs.few.meet_earlier.Goals as goal
use Rattle.leg_sweep.proofs.few.meet_earlier.Goals.{then-ask_on_layer+in_ok-take, else-ask_on_layer}

pub loop-other-init : goal.loop-other-init
loop-other-init g c =
    let tests : ℕ = g.R.PairRule.tests_of c.args.rule.now in
    let none : tests - tests ≡ 0 = omega arith in
    record {
      found = rw none (new_pairs_none g.S.PairSink.Takes
          (IsPair (g.R.PairRule.Holds (g.R.PairRule.fixed c.args.rule.now)) c.args.items.now) c.args.new c.args.sink.now);
      tests = omega arith;
      looks = omega arith;
      counts = c.requires.counts;
      same = refl;
      same_room = refl;
    }

pub loop-other-preserved : goal.loop-other-preserved
loop-other-preserved g c =
    let rule = g.R.PairRule in
    let layered = g.R.LayeredRule in
    let fixed = rule.fixed c.args.rule.now in
    let items = c.args.items.now in
    let i : ℕ = c.loop-other.other in
    let new : ℕ = c.args.new in
    let before = c.args.sink.now in
    let so_far = c.loop-other.invariant in
    let told = c.ask_on_layer.ensures in
    let a = c.index-items-other.result in
    let b = c.index-items-new.result in
    let holds = rule.Holds fixed in
    let near = near_on_layer (rule.rect_of fixed) (layered.layer_of fixed) (layered.layer_reach_of fixed) in
    let start : ℕ = rule.tests_of c.args.rule.now in
    let was : ℕ = rule.tests_of c.loop-other.rule in
    let now : ℕ = rule.tests_of c.ask_on_layer.new.rule in
    let earlier : i < new = omega arith in
    let within : i < length items = omega arith in
    let a_at : slice_get items i ≡ Some a = slice_get_read items (length items) i a refl within c.index-items-other.is in
    let b_at : slice_get items new ≡ Some b = slice_get_read items (length items) new b refl c.requires.there c.index-items-new.is in
    let answer = rw so_far.same at told.answer in
    let tests_now = rw so_far.same at told.tests in
    let looks_now = rw so_far.same at told.looks in
    let at_most =
    cond_both (layered.layer_of fixed a == layered.layer_of fixed b)
    (near_along_both (layered.layer_reach_of fixed (layered.layer_of fixed a)) (rule.rect_of fixed a) (rule.rect_of fixed b)) in
    let one_more = rw (← c.index-items-other.is) at (sum_by_more (λ x. cond (near x b) 1 0) items i a within) in
    let grown = range_more 0 i i (omega arith) in
    record {
      found = elim c.if-ask_on_layer.branch [
        | then-ask_on_layer+in_ok-take w ↦
            let one : now - start ≡ (was - start) + 1 = omega (arith, so_far.tests, told.tested w.if-ask_on_layer.true) in
            let took = rw (← ordered_below i new earlier) at w.in_ok-take.ensures.taken in
            let apart : i ≢ new = λ same. omega (arith, same, earlier) in
            let not_done : Contains (range_with_len 0 i) i → ⊥ = λ k. omega (arith, number_below i i k) in
            rw (w.sink-is, grown, one)
            (new_pairs_more g.S.PairSink.Takes (IsPair holds items) new before (range_with_len 0 i) i (was - start) c.loop-other.sink _
            (pair_from_holds holds (g.met.R.PairRule.symmetric fixed) items i new a b a_at b_at apart (answer.0 w.if-ask_on_layer.true)) not_done took
            so_far.found)
        | else-ask_on_layer w ↦
            let no_pair : IsPair holds items (ordered i new) → ⊥ =
            λ p. both_ways c.ask_on_layer.result w.if-ask_on_layer.false
            (answer.1 (holds_from_pair holds (g.met.R.PairRule.symmetric fixed) items i new a b a_at b_at p)) in
            rw (w.sink-is, grown)
            (new_pairs_skip g.S.PairSink.Takes (IsPair holds items) new before (range_with_len 0 i) i (was - start) (now - start) c.loop-other.sink no_pair
            (omega (arith, tests_now)) so_far.found)
      ];
      tests = omega (arith, so_far.tests, tests_now, one_more);
      looks = omega (arith, so_far.looks, looks_now, cond_once (layered.layer_of fixed a == layered.layer_of fixed b));
      counts = omega (arith, so_far.counts, tests_now, looks_now, at_most);
      same = told.same ∙ so_far.same;
      same_room = elim c.if-ask_on_layer.branch [
        | then-ask_on_layer+in_ok-take w ↦ rw w.sink-is (w.take.ensures.same ∙ so_far.same_room)
        | else-ask_on_layer w ↦ rw w.sink-is so_far.same_room
      ];
    }

pub returns-clause-tests : goal.returns-clause-tests
returns-clause-tests g c =
    let rule = g.R.PairRule in
    let layered = g.R.LayeredRule in
    let fixed = rule.fixed c.args.rule.now in
    let near = near_on_layer (rule.rect_of fixed) (layered.layer_of fixed) (layered.layer_reach_of fixed) in
    let end : c.loop-other.other ≡ c.args.new = omega arith in
    let tests = rw end at c.loop-other.invariant.tests in
    omega (arith, tests, pairs_more near c.args.items.now c.args.new c.index-items-new.result c.requires.there c.index-items-new.is)
