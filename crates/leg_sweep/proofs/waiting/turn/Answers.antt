use Rattle.std.proofs.Common.{◌≡◌, ℕ, ◌+◌, ◌<◌, Bool, true, false, cond, [], ◌∷◌, ◌++◌, length, get_or, take, map, count_by, Some, slice_get, Contains, refl, ap, ◌∙◌, arith}
use Rattle.std.proofs.lemmas.Bool.{both_ways}
use Rattle.std.proofs.lemmas.List.{take_more, take_all}
use Rattle.std.proofs.lemmas.List.Sums.{sum_by_more, sum_by_push}
use Rattle.std.proofs.lemmas.Option.{slice_get_read}
use Rattle.leg_geom.specs.Pairs.{IsPair}
use Rattle.leg_sweep.specs.Counts.{near_along_x, near_along_both}
use Rattle.leg_sweep.specs.Steps.Sweep.{test_at, ordered}
use Rattle.leg_sweep.proofs.Progress.{place_in_front}
use Rattle.leg_sweep.proofs.Tallies.{look_fits, test_fits, look_more, test_more, test_counts, not_fewer}
use Rattle.leg_sweep.proofs.Turns.{new_pairs_none, new_pairs_skip, new_pairs_more, pair_from_holds, holds_from_pair, test_of_read, filter_yes, filter_no}
use Rattle.leg_sweep.proofs.waiting.turn.Goals as goal
use Rattle.leg_sweep.proofs.waiting.turn.Goals.{then-near+in_ok-push, else-near, then-holds+in_ok-take, else-holds}

pub loop-other-init : goal.loop-other-init
loop-other-init g c = record {
  kept = c.requires.empty;
  found = new_pairs_none g.S.PairSink.Takes (IsPair (g.R.PairRule.Holds (g.R.PairRule.fixed c.args.rule.now)) c.args.items.now) c.args.new c.args.sink.now;
  looks = omega arith;
  tests = omega arith;
  same = refl;
  same_room = refl;
}

pub loop-other-preserved : goal.loop-other-preserved
loop-other-preserved g c =
    let rule = g.R.PairRule in
    let fixed = rule.fixed c.args.rule.now in
    let items = c.args.items.now in
    let waiting = c.args.waiting.now in
    let can = c.requires.can in
    let i : ℕ = c.loop-other.other-index in
    let x : ℕ = get_or waiting i 0 in
    let new : ℕ = c.args.new in
    let before = c.args.sink.now in
    let so_far = c.loop-other.invariant in
    let told = c.ask-near.ensures in
    let a = c.index-items-other.result in
    let b = c.index-items-new.result in
    let rect_of = rule.rect_of fixed in
    let near = near_along_x c.args.reach in
    let both = near_along_both c.args.reach in
    let holds = rule.Holds fixed in
    let within : i < length waiting = c.loop-other-test.true in
    let x_in : x < length items = can.waiting_in i 0 within in
    let x_other : x ≡ new → ⊥ = can.others i 0 within in
    let near_is : c.ask-near.result.0 ≡ test_at near (map rect_of items) x new =
    let read = test_of_read rect_of items near x new a b x_in can.new_in c.index-items-other.is c.index-items-new.is in
    rw read (rw so_far.same at told.near) in
    let passes = λ (answer : Bool) (is : c.ask-near.result.0 ≡ answer). rw near_is at is in
    let both_is = test_of_read rect_of items both x new a b x_in can.new_in c.index-items-other.is c.index-items-new.is in
    let a_at : slice_get items x ≡ Some a = slice_get_read items (length items) x a refl x_in c.index-items-other.is in
    let b_at : slice_get items new ≡ Some b = slice_get_read items (length items) new b refl can.new_in c.index-items-new.is in
    let answer = rw so_far.same at told.answer in
    let tests_now = rw so_far.same at told.tests in
    let counted : ◌≡◌ {A = ℕ} (cond (test_at both (map rect_of items) x new) 1 0) (cond (both (rect_of a) (rect_of b)) 1 0) = ap (λ t. cond t 1 0) both_is in
    let one_more = sum_by_more (λ y. cond (test_at both (map rect_of items) y new) 1 0) waiting i 0 within in
    let counts = λ (y : ℕ). test_at both (map rect_of items) y new in
    let pushed_count : count_by counts (take i waiting ++ x ∷ []) ≡ count_by counts (take i waiting) + cond (test_at both (map rect_of items) x new) 1 0 =
    sum_by_push (λ y. cond (counts y) 1 0) (take i waiting) x in
    let grown : take (i + 1) waiting ≡ take i waiting ++ x ∷ [] = take_more waiting i 0 within in
    let not_done : Contains (take i waiting) x → ⊥ = λ k.
    let place = place_in_front waiting i x (omega arith) k in
    can.apart place.0 i 0 place.1 within place.2 in
    record {
      kept = elim c.if-near.branch [
        | then-near+in_ok-push w ↦
            let pushed : c.if-near.kept.items ≡ c.loop-other.kept.items ++ x ∷ [] = rw w.kept-is w.in_ok-push.ensures.items in
            rw pushed (filter_yes (λ y. test_at near (map rect_of items) y new) waiting i 0 within c.loop-other.kept.items so_far.kept
            (passes true w.if-near.true))
        | else-near w ↦
            let same : c.if-near.kept.items ≡ c.loop-other.kept.items = rw w.kept-is refl in
            rw same (filter_no (λ y. test_at near (map rect_of items) y new) waiting i 0 within c.loop-other.kept.items so_far.kept
            (passes false w.if-near.false))
      ];
      found = elim c.if-holds.branch [
        | then-holds+in_ok-take w ↦
            let took = rw w.lower_first.ensures at w.in_ok-take.ensures in
            let one : count_by counts (take i waiting ++ x ∷ []) ≡ count_by counts (take i waiting) + 1 =
            test_counts _ _ _ _ _ _ tests_now (told.tested w.if-holds.true) counted pushed_count in
            rw (w.sink-is, grown, one)
            (new_pairs_more g.S.PairSink.Takes (IsPair holds items) new before (take i waiting) x (count_by counts (take i waiting)) c.loop-other.sink _
            (pair_from_holds holds (g.met.R.PairRule.symmetric fixed) items x new a b a_at b_at x_other (answer.0 w.if-holds.true)) not_done took.taken
            so_far.found)
        | else-holds w ↦
            let same : c.if-holds.sink ≡ c.loop-other.sink = rw w.sink-is refl in
            let no_pair : IsPair holds items (ordered x new) → ⊥ =
            λ p. both_ways c.ask-near.result.1 w.if-holds.false
            (answer.1 (holds_from_pair holds (g.met.R.PairRule.symmetric fixed) items x new a b a_at b_at p)) in
            rw (same, grown) (new_pairs_skip g.S.PairSink.Takes (IsPair holds items) new before (take i waiting) x (count_by counts (take i waiting))
            (count_by counts (take i waiting ++ x ∷ [])) c.loop-other.sink no_pair (not_fewer _ _ _ pushed_count) so_far.found)
      ];
      looks = look_more _ _ _ i so_far.looks told.looks;
      tests = test_more _ _ _ _ _ _ _ so_far.tests tests_now counted one_more;
      same = told.same ∙ so_far.same;
      same_room = elim c.if-holds.branch [
        | then-holds+in_ok-take w ↦ rw w.sink-is (w.take.ensures.same ∙ so_far.same_room)
        | else-holds w ↦ rw w.sink-is so_far.same_room
      ];
    }

pub ask-near-requires-clause-in_reach : goal.ask-near-requires-clause-in_reach
ask-near-requires-clause-in_reach g c =
    let rule = g.R.PairRule in
    let fixed = rule.fixed c.args.rule.now in
    let items = c.args.items.now in
    let waiting = c.args.waiting.now in
    let can = c.requires.can in
    let i : ℕ = c.loop-other.other-index in
    let x : ℕ = get_or waiting i 0 in
    let within : i < length waiting = c.loop-other-test.true in
    let a = c.index-items-other.result in
    let b = c.index-items-new.result in
    let a_at : slice_get items x ≡ Some a = slice_get_read items (length items) x a refl (can.waiting_in i 0 within) c.index-items-other.is in
    let b_at : slice_get items c.args.new ≡ Some b = slice_get_read items (length items) c.args.new b refl can.new_in c.index-items-new.is in
    rw c.loop-other.invariant.same (can.in_reach i 0 within a b a_at b_at)

pub ask-near-requires-clause-looks : goal.ask-near-requires-clause-looks
ask-near-requires-clause-looks g c =
    look_fits c.args.waiting.now c.loop-other.other-index _ _ _ c.loop-other-test.true c.loop-other.invariant.looks c.requires.looks

pub ask-near-requires-clause-tests : goal.ask-near-requires-clause-tests
ask-near-requires-clause-tests g c =
    let rule = g.R.PairRule in
    let counts = λ (x : ℕ). test_at (near_along_both c.args.reach) (map (rule.rect_of (rule.fixed c.args.rule.now)) c.args.items.now) x c.args.new in
    test_fits counts c.args.waiting.now c.loop-other.other-index _ _ _ _ c.loop-other-test.true c.requires.counts c.loop-other.invariant.tests c.requires.looks

pub returns-clause-kept : goal.returns-clause-kept
returns-clause-kept g c = rw (take_all c.loop-other.other-index c.args.waiting.now c.loop-other-test.false) at c.loop-other.invariant.kept

pub returns-clause-found : goal.returns-clause-found
returns-clause-found g c = rw (take_all c.loop-other.other-index c.args.waiting.now c.loop-other-test.false) at c.loop-other.invariant.found

pub returns-clause-tests : goal.returns-clause-tests
returns-clause-tests g c = rw (take_all c.loop-other.other-index c.args.waiting.now c.loop-other-test.false) at c.loop-other.invariant.tests
