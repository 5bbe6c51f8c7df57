-- One more macro.
use Rattle.std.proofs.Common.{◌≡◌, ℕ, ◌<◌, true, [], List, length, get_or, is_some, sym, ap, ◌∙◌, subst, arith}
use Rattle.std.proofs.lemmas.List.{get_or_default, take_all}
use Rattle.leg_lex.specs.NameLookup.{place_of}
use Rattle.leg_lib_records.specs.Records.{MasterModel}
use Rattle.leg_design_nets.specs.Steps.Pins.{numbers_under, used_names, AreUnder}
use Rattle.leg_design_nets.proofs.PinTables.{pin_names, under_more}
use Rattle.leg_design_nets.proofs.pin_index.masters_by_pin.Goals as goal

pub loop-m-preserved : goal.loop-m-preserved
loop-m-preserved g c =
    let masters = c.args.masters.now in
    let lists = c.args.components.now in
    let i : ℕ = c.loop-m.m in
    let x = c.index-masters-m.result in
    let less : i < length masters = omega arith in
    let within : i < length lists = omega (arith, c.requires) in
    let list : c.as_slice.result.now ≡ get_or lists i [] =
    c.as_slice.ensures ∙ (c.index-components-m.is ∙ get_or_default lists i c.index-components-m.result [] within) in
    let used : pin_names c.used_pins-pins.result.now ≡ used_names x (get_or lists i []) = c.used_pins-pins.ensures ∙ ap (used_names x) list in
    under_more masters lists (numbers_under c.loop-m.table) (numbers_under c.add_master.new.table) i x less c.index-masters-m.is c.loop-m.invariant
    c.in_ok-add_master.ensures.kept
    (λ q there. c.in_ok-add_master.ensures.added q (subst (λ (names : List (List ℕ)). is_some (place_of q names) ≡ true) (sym used) there))

pub returns : goal.returns
returns g c =
    let masters = c.args.masters.now in
    subst (λ (xs : List MasterModel). AreUnder xs c.args.components.now (numbers_under c.loop-m.table))
    (take_all c.loop-m.m masters (omega arith)) c.loop-m.invariant
