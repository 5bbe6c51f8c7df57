use Rattle.std.proofs.Common.{◌≡◌, ◌≤◌, false, All, length, map, arith}
use Rattle.std.proofs.lemmas.List.Elements.{All-map}
use Rattle.leg_design_records.specs.WellFormedNets.{IsWire}
use Rattle.leg_design_records.specs.declared.limits.TheConstants.{PART_LIMIT}
use Rattle.leg_rules.specs.Metal.Metal.{metal_of}
use Rattle.leg_rules.specs.Metal.Flat.{IsJudgedBy}
use Rattle.leg_rules.specs.Legal.{IsLegal}
use Rattle.leg_route_laws.specs.FinishedDesign.{finished}
use Rattle.leg_route.proofs.finish.finish.Goals as goal

pub with_all_wires-requires-clause-few : goal.with_all_wires-requires-clause-few
with_all_wires-requires-clause-few g c =
    let it = c.requires.run in
    let design = c.args.design in
    let lists = map (λ wires. wires.items) c.args.lists.items in
    let spelled = All-map (All (IsWire design.library design.vias false)) (λ wires. wires.items) c.args.lists.items c.requires.spelled in
    let wires = c.finished_run.ensures.wires design lists c.design_is_sound.ensures.library c.design_is_sound.ensures.proper spelled in
    let shapes = c.finished_run.ensures.shapes design it.flat it.grown it.added lists it.comes.clean.judged.is_flat it.run it.lists_are in
    let within = it.within in
    omega (arith, wires, shapes, within)

pub returns-in-Ok-clause-few : goal.returns-in-Ok-clause-few
returns-in-Ok-clause-few g c =
    let it = c.requires.run in
    let lists = map (λ wires. wires.items) c.args.lists.items in
    let shapes = c.finished_run.ensures.shapes c.args.design it.flat it.grown it.added lists it.comes.clean.judged.is_flat it.run it.lists_are in
    rw (c.in-Ok.ensures.added, shapes) it.within

pub returns-in-Ok-clause-run : goal.returns-in-Ok-clause-run
returns-in-Ok-clause-run g c =
    let it = c.requires.run in
    let lists = map (λ wires. wires.items) c.args.lists.items in
    rw c.in-Ok.ensures.added
    (c.finished_run.ensures.routed c.args.design it.flat it.grown it.added lists it.comes.clean.judged.is_flat it.run it.done it.lists_are)

pub returns-in-Ok-clause-same : goal.returns-in-Ok-clause-same
returns-in-Ok-clause-same g c = rw c.in-Ok.ensures.added (c.finished_run.ensures.same c.args.design (map (λ wires. wires.items) c.args.lists.items))

pub returns-in-Ok-clause-legal : goal.returns-in-Ok-clause-legal
returns-in-Ok-clause-legal g c =
    let it = c.requires.run in
    let lists = map (λ wires. wires.items) c.args.lists.items in
    let is : c.in-Ok.done ≡ finished c.args.design lists = c.in-Ok.ensures.added in
    let flat = c.every_design_has_a_flat.ensures in
    let shapes = c.finished_run.ensures.shapes c.args.design it.flat it.grown it.added lists it.comes.clean.judged.is_flat it.run it.lists_are in
    let few : length (metal_of (finished c.args.design lists)) ≤ PART_LIMIT = rw shapes it.within in
    let judged : IsJudgedBy (finished c.args.design lists) flat.0 = record { few = few; is_flat = rw is at flat.1 } in
    let proper = rw c.in-Ok.ensures.added at c.design_is_sound-in-Ok.ensures.proper in
    let none =
    c.finished_run.ensures.legal c.args.design it.flat it.grown it.added lists c.design_is_sound.ensures.library c.design_is_sound.ensures.proper proper
    it.comes.clean.judged.is_flat it.comes.clean.none it.run it.done it.lists_are in
    let legal : IsLegal (finished c.args.design lists) = record { flat = flat.0; judged = judged; none = none } in
    rw is legal
