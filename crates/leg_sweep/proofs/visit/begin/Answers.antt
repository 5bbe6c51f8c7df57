use Rattle.std.proofs.Common.{◌≡◌, ℕ, map, count_by, cond, sym, ◌∙◌}
use Rattle.std.proofs.lemmas.List.{get_or_default}
use Rattle.std.proofs.lemmas.List.Sums.{sum_by-append}
use Rattle.leg_geom.specs.Pairs.{IsPair}
use Rattle.leg_sweep.specs.Counts.{near_along_both}
use Rattle.leg_sweep.specs.Steps.Bands.{empty_band, waiting_at}
use Rattle.leg_sweep.specs.Steps.Sweep.{test_at}
use Rattle.leg_sweep.proofs.Tallies.{looks_at_first, looks_at_second, looks_at_both, tests_at_both, tests_in_looks}
use Rattle.leg_sweep.proofs.Turns.{new_pairs_append}
use Rattle.leg_sweep.proofs.visit.begin.Goals as goal

pub meet_waiting-requires-clause-can : goal.meet_waiting-requires-clause-can
meet_waiting-requires-clause-can g c =
    let begun = c.band.inside.begun.items in
    let passing = c.band.inside.passing.items in
    let band_is : waiting_at c.args.bands.now c.args.number ≡ record { reach = c.band.inside.reach; begun = begun; passing = passing } =
    get_or_default c.args.bands.now c.args.number (empty_band 0) c.index-bands-number.result c.requires.there ∙ sym c.band.view_is in
    rw band_is at c.requires.begun

pub meet_waiting-requires-clause-looks : goal.meet_waiting-requires-clause-looks
meet_waiting-requires-clause-looks g c =
    let begun = c.band.inside.begun.items in
    let passing = c.band.inside.passing.items in
    let band_is : waiting_at c.args.bands.now c.args.number ≡ record { reach = c.band.inside.reach; begun = begun; passing = passing } =
    get_or_default c.args.bands.now c.args.number (empty_band 0) c.index-bands-number.result c.requires.there ∙ sym c.band.view_is in
    looks_at_first begun passing _ _ (rw band_is at c.requires.looks)

pub meet_waiting-requires-2-clause-can : goal.meet_waiting-requires-2-clause-can
meet_waiting-requires-2-clause-can g c =
    let begun = c.band.inside.begun.items in
    let passing = c.band.inside.passing.items in
    let band_is : waiting_at c.args.bands.now c.args.number ≡ record { reach = c.band.inside.reach; begun = begun; passing = passing } =
    get_or_default c.args.bands.now c.args.number (empty_band 0) c.index-bands-number.result c.requires.there ∙ sym c.band.view_is in
    rw c.meet_waiting.ensures.same (rw band_is at c.requires.passing)

pub meet_waiting-requires-2-clause-counts : goal.meet_waiting-requires-2-clause-counts
meet_waiting-requires-2-clause-counts g c =
    let rule = g.R.PairRule in
    let counts = λ (x : ℕ). test_at (near_along_both c.band.inside.reach) (map (rule.rect_of (rule.fixed c.args.rule.now)) c.args.items.now) x c.args.new in
    tests_in_looks counts c.band.inside.begun.items _ _ _ _ c.requires.counts c.in_ok-meet_waiting.ensures.looks c.in_ok-meet_waiting.ensures.tests

pub meet_waiting-requires-2-clause-looks : goal.meet_waiting-requires-2-clause-looks
meet_waiting-requires-2-clause-looks g c =
    let begun = c.band.inside.begun.items in
    let passing = c.band.inside.passing.items in
    let band_is : waiting_at c.args.bands.now c.args.number ≡ record { reach = c.band.inside.reach; begun = begun; passing = passing } =
    get_or_default c.args.bands.now c.args.number (empty_band 0) c.index-bands-number.result c.requires.there ∙ sym c.band.view_is in
    looks_at_second begun passing _ _ _ (rw band_is at c.requires.looks) c.in_ok-meet_waiting.ensures.looks

pub returns-in_err-meet_waiting-2-clause-same : goal.returns-in_err-meet_waiting-2-clause-same
returns-in_err-meet_waiting-2-clause-same g c = c.meet_waiting-2.ensures.same ∙ c.meet_waiting.ensures.same

pub returns-in_err-meet_waiting-2-clause-same_room : goal.returns-in_err-meet_waiting-2-clause-same_room
returns-in_err-meet_waiting-2-clause-same_room g c = c.meet_waiting-2.ensures.same_room ∙ c.meet_waiting.ensures.same_room

pub returns-in_err-push-clause-same : goal.returns-in_err-push-clause-same
returns-in_err-push-clause-same g c = c.meet_waiting-2.ensures.same ∙ c.meet_waiting.ensures.same

pub returns-in_err-push-clause-same_room : goal.returns-in_err-push-clause-same_room
returns-in_err-push-clause-same_room g c = c.meet_waiting-2.ensures.same_room ∙ c.meet_waiting.ensures.same_room

pub returns-clause-same : goal.returns-clause-same
returns-clause-same g c = c.meet_waiting-2.ensures.same ∙ c.meet_waiting.ensures.same

pub returns-clause-same_room : goal.returns-clause-same_room
returns-clause-same_room g c = c.meet_waiting-2.ensures.same_room ∙ c.meet_waiting.ensures.same_room

pub returns-clause-found : goal.returns-clause-found
returns-clause-found g c =
    let rule = g.R.PairRule in
    let fixed = rule.fixed c.args.rule.now in
    let items = c.args.items.now in
    let begun = c.band.inside.begun.items in
    let passing = c.band.inside.passing.items in
    let counts = λ (x : ℕ). test_at (near_along_both c.band.inside.reach) (map (rule.rect_of fixed) items) x c.args.new in
    let band_is : waiting_at c.args.bands.now c.args.number ≡ record { reach = c.band.inside.reach; begun = begun; passing = passing } =
    get_or_default c.args.bands.now c.args.number (empty_band 0) c.index-bands-number.result c.requires.there ∙ sym c.band.view_is in
    let differ = rw band_is at c.requires.apart in
    let first = c.in_ok-meet_waiting.ensures.found in
    let second = rw c.meet_waiting.ensures.same at c.in_ok-meet_waiting-2.ensures.found in
    rw (band_is, sum_by-append (λ x. cond (counts x) 1 0) begun passing)
    (new_pairs_append g.S.PairSink.Takes (IsPair (rule.Holds fixed) items) c.args.new c.args.sink.now begun passing (count_by counts begun)
    (count_by counts passing) c.meet_waiting.new.sink c.meet_waiting-2.new.sink differ first second)

pub returns-clause-looks : goal.returns-clause-looks
returns-clause-looks g c =
    let begun = c.band.inside.begun.items in
    let passing = c.band.inside.passing.items in
    let band_is : waiting_at c.args.bands.now c.args.number ≡ record { reach = c.band.inside.reach; begun = begun; passing = passing } =
    get_or_default c.args.bands.now c.args.number (empty_band 0) c.index-bands-number.result c.requires.there ∙ sym c.band.view_is in
    rw band_is (looks_at_both begun passing _ _ _ c.in_ok-meet_waiting.ensures.looks c.in_ok-meet_waiting-2.ensures.looks)

pub returns-clause-tests : goal.returns-clause-tests
returns-clause-tests g c =
    let rule = g.R.PairRule in
    let counts = λ (x : ℕ). test_at (near_along_both c.band.inside.reach) (map (rule.rect_of (rule.fixed c.args.rule.now)) c.args.items.now) x c.args.new in
    let begun = c.band.inside.begun.items in
    let passing = c.band.inside.passing.items in
    let band_is : waiting_at c.args.bands.now c.args.number ≡ record { reach = c.band.inside.reach; begun = begun; passing = passing } =
    get_or_default c.args.bands.now c.args.number (empty_band 0) c.index-bands-number.result c.requires.there ∙ sym c.band.view_is in
    let second = rw c.meet_waiting.ensures.same at c.in_ok-meet_waiting-2.ensures.tests in
    rw band_is (tests_at_both begun passing counts _ _ _ c.in_ok-meet_waiting.ensures.tests second)
