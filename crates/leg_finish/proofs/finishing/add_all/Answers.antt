use Rattle.std.proofs.Common.{◌≡◌, false, List, All, length, map, sum_by, count_by, sym, ◌∙◌, arith}
use Rattle.leg_design_records.specs.WellFormed.{IsWellFormed}
use Rattle.leg_design_records.specs.declared.records.Wire.{Wire}
use Rattle.leg_rules.specs.Legal.{IsLegal}
use Rattle.leg_route_laws.specs.FinishedDesign.{finished}
use Rattle.leg_design_records.specs.WellFormedNets.{IsWire}
use Rattle.leg_rules.specs.Finish.Wires.{wire_length, is_via}
use Rattle.leg_sweep.proofs.GridSums.{sum_by-map}
use Rattle.leg_finish_search.proofs.Elements.{all_before}
use Rattle.leg_finish.proofs.WithWires.{few_shapes, few_wires, few_added, legal_then}
use Rattle.leg_finish.proofs.AddedWires.{adds_to_open, have_totals}
use Rattle.leg_finish.proofs.WalkWires.{adds_walks}
use Rattle.leg_finish.proofs.finishing.add_all.Goals as goal

pub totals_of-totals-requires : goal.totals_of-totals-requires
totals_of-totals-requires g c =
    let few =
    few_added c.args.design (map (λ wires. wires.items) c.args.lists.items) c.requires c.shapes_stay_as_many.ensures c.finished_design_is_same.ensures.wires
    c.design_is_sound.ensures.library c.design_is_sound.ensures.proper in
    let same = sum_by-map (λ (wires : List Wire). length wires) (λ wires. wires.items) c.args.lists.items in
    rw c.deref.ensures.value (omega (arith, few, same))

pub with_all_wires-requires-clause-spelled : goal.with_all_wires-requires-clause-spelled
with_all_wires-requires-clause-spelled g c =
    all_before (All (IsWire c.args.design.library c.args.design.vias false)) (λ wires. wires.items) c.args.lists.items c.requires.laid.spelled

pub with_all_wires-requires-clause-few : goal.with_all_wires-requires-clause-few
with_all_wires-requires-clause-few g c =
    few_wires c.args.design (map (λ wires. wires.items) c.args.lists.items) c.requires c.shapes_stay_as_many.ensures c.finished_design_is_same.ensures.wires
    c.design_is_sound.ensures.library c.design_is_sound.ensures.proper

pub returns-in-Ok-clause-legal : goal.returns-in-Ok-clause-legal
returns-in-Ok-clause-legal g c =
    let lists = map (λ wires. wires.items) c.args.lists.items in
    let is : c.in-Ok.done ≡ finished c.args.design lists = c.in-Ok.ensures.added in
    let flat = c.every_design_has_a_flat.ensures in
    let proper : IsWellFormed (finished c.args.design lists) = rw is at c.design_is_sound-in-Ok.ensures.proper in
    let legal : IsLegal (finished c.args.design lists) =
    legal_then c.args.design lists c.requires c.finished_design_is_legal.ensures c.placement_stays.ensures c.design_is_sound.ensures.proper proper
    c.shapes_stay_as_many.ensures flat.0 (rw is at flat.1) in
    rw is legal

pub returns-in-Ok-clause-same : goal.returns-in-Ok-clause-same
returns-in-Ok-clause-same g c = rw c.in-Ok.ensures.added (c.finished_design_is_same.ensures.same c.args.design (map (λ wires. wires.items) c.args.lists.items))

pub returns-in-Ok-clause-open_only : goal.returns-in-Ok-clause-open_only
returns-in-Ok-clause-open_only g c =
    let it = c.requires in
    let lists = map (λ wires. wires.items) c.args.lists.items in
    rw c.in-Ok.ensures.added (adds_to_open c.design_has_one_flat.ensures c.args.design lists it.flat it.comes.clean.judged.is_flat it.laid.open_only)

pub returns-in-Ok-clause-walks : goal.returns-in-Ok-clause-walks
returns-in-Ok-clause-walks g c =
    let laid = c.requires.laid in
    rw c.in-Ok.ensures.added (adds_walks c.args.design (map (λ wires. wires.items) c.args.lists.items) laid.by_net.one_each laid.walks)

pub returns-in-Ok-clause-totals : goal.returns-in-Ok-clause-totals
returns-in-Ok-clause-totals g c =
    let lists = map (λ wires. wires.items) c.args.lists.items in
    let total = rw c.deref.ensures.value at c.totals_of-totals.ensures.length in
    let vias = rw c.deref.ensures.value at c.totals_of-totals.ensures.vias in
    let same = sum_by-map (λ (wires : List Wire). sum_by wire_length wires) (λ wires. wires.items) c.args.lists.items in
    let same_vias = sum_by-map (λ (wires : List Wire). count_by is_via wires) (λ wires. wires.items) c.args.lists.items in
    rw c.in-Ok.ensures.added
    (have_totals c.args.design lists c.totals_of-totals.result.length c.totals_of-totals.result.vias c.requires.laid.by_net.one_each (total ∙ sym same)
    (vias ∙ sym same_vias))

pub returns-in-Ok-clause-few : goal.returns-in-Ok-clause-few
returns-in-Ok-clause-few g c =
    rw c.in-Ok.ensures.added (few_shapes c.args.design (map (λ wires. wires.items) c.args.lists.items) c.requires c.shapes_stay_as_many.ensures)
