use Rattle.std.proofs.Common.{◌≡◌, ℕ, suc, ◌+◌, ◌-◌, ◌<◌, ◌≤◌, length, map, count_by, cond, Contains, refl, ap, ◌∙◌, arith}
use Rattle.std.proofs.lemmas.List.{length-append}
use Rattle.std.proofs.lemmas.List.Sums.{sum_by-append, count_by-le-length}
use Rattle.leg_geom.specs.Pairs.{IsPair}
use Rattle.leg_sweep.specs.Counts.{near_along_x, near_along_both}
use Rattle.leg_sweep.specs.Steps.Bands.{Waiting, waiting_at, met}
use Rattle.leg_sweep.specs.Steps.Sweep.{test_at}
use Rattle.leg_sweep.proofs.Tallies.{looks_at_both, tests_at_both, tests_in_looks, next_above, next_from_first, next_to_last, next_number, next_there, left_at_both}
use Rattle.leg_sweep.proofs.MetItems.{begun_in, met_new, met_next, met_longer, count_begin, count_pass, visited_first, visited_more}
use Rattle.leg_sweep.proofs.Turns.{new_pairs_append}
use Rattle.leg_sweep.proofs.visit.visit.Goals as goal

pub begin-requires-clause-begun : goal.begin-requires-clause-begun
begin-requires-clause-begun g c = c.requires.can.begun c.args.range.first (omega arith) c.requires.can.upward

pub begin-requires-clause-apart : goal.begin-requires-clause-apart
begin-requires-clause-apart g c = λ x begins passes. c.requires.can.apart_passing c.args.range.first x (omega arith) c.requires.can.upward begins passes

pub begin-requires-clause-looks : goal.begin-requires-clause-looks
begin-requires-clause-looks g c =
    let first : ℕ = c.args.range.first in
    omega (arith, met_longer c.args.bands.now first 0 (c.args.range.last - first) (omega arith), c.requires.looks)

pub loop-k-init : goal.loop-k-init
loop-k-init g c =
    let rule = g.R.PairRule in
    let rects = map (rule.rect_of (rule.fixed c.args.rule.now)) c.args.items.now in
    let old = c.args.bands.now in
    let first : ℕ = c.args.range.first in
    let new : ℕ = c.args.new in
    let reach : ℕ = (waiting_at old first).reach in
    let narrow = λ (x : ℕ). test_at (near_along_x reach) rects x new in
    let none : first - first ≡ 0 = omega arith in
    let there : first < length old = omega (arith, c.requires.can.upward, c.requires.can.there) in
    let begun = c.in_ok-begin.ensures in
    record {
      visited = rw begun.bands (visited_first narrow new old first there);
      found = rw none begun.found;
      looks = rw none begun.looks;
      tests = rw none begun.tests;
      left = rw (none, begun.bands) (omega (arith, count_begin narrow new old first there));
      counts =
          omega (arith, begun.looks, begun.tests, c.requires.counts, count_by-le-length (λ x. test_at (near_along_both reach) rects x new) (met old first 0));
      same = c.begin.ensures.same;
      same_room = c.begin.ensures.same_room;
    }

pub pass-requires-clause-room : goal.pass-requires-clause-room
pass-requires-clause-room g c = rw c.loop-k.invariant.same_room c.requires.room

pub pass-requires-clause-there : goal.pass-requires-clause-there
pass-requires-clause-there g c = omega (arith, c.loop-k.invariant.visited.count, c.requires.can.there)

pub pass-requires-clause-begun : goal.pass-requires-clause-begun
pass-requires-clause-begun g c =
    let so_far = c.loop-k.invariant in
    let k : ℕ = c.loop-k.k in
    let can = c.requires.can in
    let here : waiting_at c.loop-k.bands (k + 1) ≡ waiting_at c.args.bands.now (k + 1) = so_far.visited.above (k + 1) (omega arith) in
    rw (so_far.same, here, can.one_reach (k + 1) (omega arith) (omega arith)) (can.begun (k + 1) (omega arith) (omega arith))

pub pass-requires-clause-counts : goal.pass-requires-clause-counts
pass-requires-clause-counts g c = c.loop-k.invariant.counts

pub pass-requires-clause-looks : goal.pass-requires-clause-looks
pass-requires-clause-looks g c =
    let so_far = c.loop-k.invariant in
    let old = c.args.bands.now in
    let first : ℕ = c.args.range.first in
    let k : ℕ = c.loop-k.k in
    let here : waiting_at c.loop-k.bands (k + 1) ≡ waiting_at old (k + 1) = so_far.visited.above (k + 1) (omega arith) in
    let longer = met_longer old first (k + 1 - first) (c.args.range.last - first) (omega arith) in
    let next = ap length (met_next old first k (omega arith)) ∙ length-append (met old first (k - first)) (begun_in old (k + 1)) in
    rw here (omega (arith, so_far.looks, longer, next, c.requires.looks))

pub returns-in_err-pass-clause-same : goal.returns-in_err-pass-clause-same
returns-in_err-pass-clause-same g c = c.pass.ensures.same ∙ c.loop-k.invariant.same

pub returns-in_err-pass-clause-same_room : goal.returns-in_err-pass-clause-same_room
returns-in_err-pass-clause-same_room g c = c.pass.ensures.same_room ∙ c.loop-k.invariant.same_room

pub loop-k-preserved : goal.loop-k-preserved
loop-k-preserved g c =
    let rule = g.R.PairRule in
    let fixed = rule.fixed c.args.rule.now in
    let items = c.args.items.now in
    let rects = map (rule.rect_of fixed) items in
    let old = c.args.bands.now in
    let first : ℕ = c.args.range.first in
    let last : ℕ = c.args.range.last in
    let new : ℕ = c.args.new in
    let k : ℕ = c.loop-k.k in
    let upward : first ≤ k = omega arith in
    let earlier : k < last = omega arith in
    let can = c.requires.can in
    let so_far = c.loop-k.invariant in
    let bands = c.loop-k.bands in
    let reach : ℕ = (waiting_at old first).reach in
    let narrow = λ (x : ℕ). test_at (near_along_x reach) rects x new in
    let counts = λ (x : ℕ). test_at (near_along_both reach) rects x new in
    let here : waiting_at bands (k + 1) ≡ waiting_at old (k + 1) = so_far.visited.above (k + 1) (next_above k) in
    let one = can.one_reach (k + 1) (next_from_first first k upward) (next_to_last k last earlier) in
    let seen = met old first (k - first) in
    let begun = begun_in old (k + 1) in
    let next = met_next old first k upward in
    let within : k + 1 < length bands = next_there k last (length old) (length bands) earlier can.there so_far.visited.count in
    let passed = rw (so_far.same, here, one) at c.in_ok-pass.ensures.bands in
    let found = rw (so_far.same, here, one) at c.in_ok-pass.ensures.found in
    let looks = rw here at c.in_ok-pass.ensures.looks in
    let tests = rw (so_far.same, here, one) at c.in_ok-pass.ensures.tests in
    let same_begun : begun_in bands (k + 1) ≡ begun = ap (λ (w : Waiting). w.begun) here in
    let number : first + suc (k - first) ≡ k + 1 = next_number first k upward in
    let not_past : first + suc (k - first) ≤ last = rw number (next_to_last k last earlier) in
    let differ : (x : ℕ) → Contains seen x → Contains begun x → ⊥ = λ x seen_there there.
    met_new old first last (λ j low high. (can.begun j low high).apart) can.passing.apart can.apart can.apart_passing (k - first) x not_past seen_there
    (rw number there) in
    let count_more = sum_by-append (λ x. cond (counts x) 1 0) seen begun in
    record {
      visited =
          rw passed (rw (here, one) at (visited_more narrow first k new old bands upward
          (next_there k last (length old) (length old) earlier can.there refl) so_far.visited));
      found =
          rw (next, count_more)
          (new_pairs_append g.S.PairSink.Takes (IsPair (rule.Holds fixed) items) new c.args.sink.now seen begun (count_by counts seen)
          (count_by counts begun) c.loop-k.sink c.pass.new.sink
          differ so_far.found found);
      looks = rw next (looks_at_both seen begun _ _ _ so_far.looks looks);
      tests = rw next (tests_at_both seen begun counts _ _ _ so_far.tests tests);
      left = rw (next, passed) (left_at_both narrow seen begun first k _ _ _ upward so_far.left
          (rw (same_begun, here, one) at (count_pass narrow new bands (k + 1) within)));
      counts = tests_in_looks counts begun _ _ _ _ so_far.counts looks tests;
      same = c.pass.ensures.same ∙ so_far.same;
      same_room = c.pass.ensures.same_room ∙ so_far.same_room;
    }

pub returns-clause-visited : goal.returns-clause-visited
returns-clause-visited g c = let end : c.loop-k.k ≡ c.args.range.last = omega (arith, c.requires.can.upward) in rw end at c.loop-k.invariant.visited

pub returns-clause-found : goal.returns-clause-found
returns-clause-found g c = let end : c.loop-k.k ≡ c.args.range.last = omega (arith, c.requires.can.upward) in rw end at c.loop-k.invariant.found

pub returns-clause-looks : goal.returns-clause-looks
returns-clause-looks g c = let end : c.loop-k.k ≡ c.args.range.last = omega (arith, c.requires.can.upward) in rw end at c.loop-k.invariant.looks

pub returns-clause-tests : goal.returns-clause-tests
returns-clause-tests g c = let end : c.loop-k.k ≡ c.args.range.last = omega (arith, c.requires.can.upward) in rw end at c.loop-k.invariant.tests

pub returns-clause-left : goal.returns-clause-left
returns-clause-left g c = let end : c.loop-k.k ≡ c.args.range.last = omega (arith, c.requires.can.upward) in rw end at c.loop-k.invariant.left

pub returns-clause-same : goal.returns-clause-same
returns-clause-same g c = c.loop-k.invariant.same

pub returns-clause-same_room : goal.returns-clause-same_room
returns-clause-same_room g c = c.loop-k.invariant.same_room
