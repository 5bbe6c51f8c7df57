use Rattle.std.proofs.Common.{◌≡◌, All, rules}
use Rattle.std.proofs.lemmas.Result.{err_from_is_err_and}
use Rattle.leg_lib_records.specs.Sound.{IsSoundLayer}
use Rattle.leg_drc_rules.specs.Records.{DeckModel}
use Rattle.leg_drc_rules.specs.Scale.{IsDeckAt}
use Rattle.leg_drc_rules.proofs.Scaling.{layers_within, one_deck, no_deck_at}
use Rattle.leg_drc_rules.proofs.raw.RawDeckRules.at.Goals as goal

pub returns-in_err-layers-clause-none : goal.returns-in_err-layers-clause-none
returns-in_err-layers-clause-none g c =
    let p = err_from_is_err_and c.from_residual.result c.from_residual.ensures.1 in
    let same : c.as_slice.result.now ≡ c.args.self.now.layers = search rules in
    rw (p.1, p.2) (λ not_memory. no_deck_at c.args.library.now c.args.self.now c.units.result c.layers.result.now c.as_slice.result.now c.units.ensures
    c.layers.ensures.is same (c.in_err-layers.ensures.none not_memory))

pub invariant_of-result : goal.invariant_of-result
invariant_of-result g c =
    let sound : All IsSoundLayer c.layers.result.now = rw c.layers.ensures.is c.layers.ensures.proper.layers in
    layers_within c.units.result c.layers.result.now c.as_slice.result.now c.in_ok-layers.layers sound c.in_ok-layers.ensures.ok

pub returns-clause-only : goal.returns-clause-only
returns-clause-only g c = λ said is.
    let deck : DeckModel = record { grid = c.self.inside.grid; layers = c.in_ok-layers.layers } in
    let ok : IsDeckAt c.args.library.now c.args.self.now deck = search rules in
    one_deck c.args.library.now c.args.self.now said deck is ok
