-- One more macro.
use Rattle.std.proofs.Common.{◌≡◌, ℕ, ◌<◌, ◌∷◌, [], List, length, length-append, get_or, ap, ◌∙◌, subst, arith}
use Rattle.std.proofs.lemmas.List.{get_or_default, take_all}
use Rattle.leg_lex.specs.NameLookup.{place_of}
use Rattle.leg_lib_records.specs.Records.{MasterModel}
use Rattle.leg_design_nets.specs.Steps.Pins.{place_in_tables, used_names, ArePinPlaces}
use Rattle.leg_design_nets.proofs.PinTables.{pin_names, places_more}
use Rattle.leg_design_nets.proofs.pin_index.places_of_each.Goals as goal

pub loop-m-preserved : goal.loop-m-preserved
loop-m-preserved g c =
    let masters = c.args.masters.now in
    let lists = c.args.components.now in
    let tables = c.loop-m.tables.items in
    let table = c.in_ok-pin_places.field-0 in
    let i : ℕ = c.loop-m.m in
    let x = c.index-masters-m.result in
    let less : i < length masters = omega arith in
    let within : i < length lists = omega (arith, c.requires) in
    let list : c.as_slice.result.now ≡ get_or lists i [] =
    c.as_slice.ensures ∙ (c.index-components-m.is ∙ get_or_default lists i c.index-components-m.result [] within) in
    let used : pin_names c.used_pins-pins.result.now ≡ used_names x (get_or lists i []) = c.used_pins-pins.ensures ∙ ap (used_names x) list in
    let long = c.loop-m.invariant.long in
    let more = length-append tables (table ∷ []) in
    rw c.in_ok-push.ensures.items (record {
      long = omega (arith, more, long);
      places = places_more masters lists tables table i x less c.index-masters-m.is long c.loop-m.invariant.places
          (λ q. c.in_ok-pin_places.ensures q ∙ ap (place_of q) used);
    })

pub returns : goal.returns
returns g c =
    let masters = c.args.masters.now in
    subst (λ (xs : List MasterModel). ArePinPlaces xs c.args.components.now (place_in_tables c.loop-m.tables.items))
    (take_all c.loop-m.m masters (omega arith)) c.loop-m.invariant.places
