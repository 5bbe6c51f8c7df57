-- The layer's rules have its least width.
use Rattle.std.proofs.Common.{◌≡◌, Some, FitsSigned, w64, slice_get, refl, ap, rules}
use Rattle.std.proofs.lemmas.Int.{to_z-of_z}
use Rattle.std.proofs.lemmas.Option.{slice_get_read, slice_get_past}
use Rattle.leg_drc_rules.specs.Records.{LayerRulesModel}
use Rattle.leg_drc.proofs.NarrowShapes.{narrow_told, no_rules_told}
use Rattle.leg_drc.proofs.one_shape.is_narrow.Goals as goal

pub returns-in-Some : goal.returns-in-Some
returns-in-Some g c =
    let deck = c.args.deck.now in
    let shape = c.args.shape.now in
    let rules_now = c.in-Some.rules.now in
    let there : slice_get deck.layers shape.layer ≡ Some rules_now =
    rw (← c.layers.ensures.is) (slice_get_read c.layers.result.now _ shape.layer rules_now refl c.in-Some.ensures.lookup.3.0 c.in-Some.ensures.lookup.1) in
    let width : c.rules.inside.width ≡ rules_now.width = ap (λ (r : LayerRulesModel). r.width) c.rules.view_is in
    let fits_side : FitsSigned w64 c.lesser_side.result = search rules in
    let fits_width : FitsSigned w64 c.rules.inside.width = search rules in
    simp to_z-of_z (narrow_told deck shape rules_now there c.lesser_side.result c.rules.inside.width c.lesser_side.ensures width)

pub returns-in-None : goal.returns-in-None
returns-in-None g c =
    let deck = c.args.deck.now in
    let shape = c.args.shape.now in
    no_rules_told deck shape (rw (← c.layers.ensures.is) (slice_get_past c.layers.result.now shape.layer c.in-None.ensures.lookup.3))
