-- One more pair has its numbers.
use Rattle.std.proofs.Common.{get_or}
use Rattle.std.proofs.lemmas.Option.{slice_get-get_or}
use Rattle.leg_drc.proofs.CandidatePairs.{numbers_more}
use Rattle.leg_drc.proofs.candidate.shape_numbers.Goals as goal

pub loop-i-preserved : goal.loop-i-preserved
loop-i-preserved g c =
    let candidates = c.args.candidates.now in
    let pairs = c.args.pairs.now in
    let k = c.loop-i.i-index in
    let p = get_or pairs k (0, 0) in
    let first = get_or candidates p.0 c.index-candidates-i.result in
    let second = get_or candidates p.1 c.index-candidates-j.result in
    let first_at = slice_get-get_or candidates p.0 c.index-candidates-i.result (c.requires.first k (0, 0) c.loop-i-test.true) in
    let second_at = slice_get-get_or candidates p.1 c.index-candidates-j.result (c.requires.second k (0, 0) c.loop-i-test.true) in
    rw (c.in_ok-push.ensures.items, c.loop-i.invariant) (numbers_more candidates pairs k first second c.loop-i-test.true first_at second_at)
