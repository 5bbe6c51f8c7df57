use Rattle.std.proofs.Common.{◌≡◌, sym, ◌∙◌}
use Rattle.std.proofs.lemmas.List.{get_or_default}
use Rattle.leg_sweep.specs.Steps.Bands.{empty_band, waiting_at}
use Rattle.leg_sweep.proofs.visit.pass.Goals as goal

pub meet_waiting-requires-clause-can : goal.meet_waiting-requires-clause-can
meet_waiting-requires-clause-can g c =
    let begun = c.band.inside.begun.items in
    let passing = c.band.inside.passing.items in
    let band_is : waiting_at c.args.bands.now c.args.number ≡ record { reach = c.band.inside.reach; begun = begun; passing = passing } =
    get_or_default c.args.bands.now c.args.number (empty_band 0) c.index-bands-number.result c.requires.there ∙ sym c.band.view_is in
    rw band_is at c.requires.begun

pub meet_waiting-requires-clause-looks : goal.meet_waiting-requires-clause-looks
meet_waiting-requires-clause-looks g c =
    let begun = c.band.inside.begun.items in
    let passing = c.band.inside.passing.items in
    let band_is : waiting_at c.args.bands.now c.args.number ≡ record { reach = c.band.inside.reach; begun = begun; passing = passing } =
    get_or_default c.args.bands.now c.args.number (empty_band 0) c.index-bands-number.result c.requires.there ∙ sym c.band.view_is in
    rw band_is at c.requires.looks

pub returns-in_err-push-clause-same : goal.returns-in_err-push-clause-same
returns-in_err-push-clause-same g c = c.meet_waiting.ensures.same

pub returns-in_err-push-clause-same_room : goal.returns-in_err-push-clause-same_room
returns-in_err-push-clause-same_room g c = c.meet_waiting.ensures.same_room

pub returns-clause-found : goal.returns-clause-found
returns-clause-found g c =
    let begun = c.band.inside.begun.items in
    let passing = c.band.inside.passing.items in
    let band_is : waiting_at c.args.bands.now c.args.number ≡ record { reach = c.band.inside.reach; begun = begun; passing = passing } =
    get_or_default c.args.bands.now c.args.number (empty_band 0) c.index-bands-number.result c.requires.there ∙ sym c.band.view_is in
    rw band_is c.in_ok-meet_waiting.ensures.found

pub returns-clause-looks : goal.returns-clause-looks
returns-clause-looks g c =
    let begun = c.band.inside.begun.items in
    let passing = c.band.inside.passing.items in
    let band_is : waiting_at c.args.bands.now c.args.number ≡ record { reach = c.band.inside.reach; begun = begun; passing = passing } =
    get_or_default c.args.bands.now c.args.number (empty_band 0) c.index-bands-number.result c.requires.there ∙ sym c.band.view_is in
    rw band_is c.in_ok-meet_waiting.ensures.looks

pub returns-clause-tests : goal.returns-clause-tests
returns-clause-tests g c =
    let begun = c.band.inside.begun.items in
    let passing = c.band.inside.passing.items in
    let band_is : waiting_at c.args.bands.now c.args.number ≡ record { reach = c.band.inside.reach; begun = begun; passing = passing } =
    get_or_default c.args.bands.now c.args.number (empty_band 0) c.index-bands-number.result c.requires.there ∙ sym c.band.view_is in
    rw band_is c.in_ok-meet_waiting.ensures.tests

pub returns-clause-same : goal.returns-clause-same
returns-clause-same g c = c.meet_waiting.ensures.same

pub returns-clause-same_room : goal.returns-clause-same_room
returns-clause-same_room g c = c.meet_waiting.ensures.same_room
