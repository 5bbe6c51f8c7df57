use Rattle.std.proofs.Common.{◌<◌, ◌+◌, suc, false, length, refl, take, drop, subst, sym, ◌∙◌}
use Rattle.std.proofs.lemmas.Result.{err_from_is_err_and}
use Rattle.leg_design_records.specs.declared.limits.TheConstants.{PART_LIMIT}
use Rattle.leg_design_records.specs.WellFormedNets.{IsWire}
use Rattle.leg_rules.specs.Metal.Metal.{wire_outlines}
use Rattle.leg_rules.specs.Metal.MoreWires.{HasOneMoreWire}
use Rattle.leg_rules.specs.Route.MoreWires.{HasMoreWires}
use Rattle.leg_rules.specs.Route.MoreWires.HasMoreWires.{none}
use Rattle.leg_lemmas.proofs.Places.{all_read}
use Rattle.leg_route.proofs.MoreWires.{more_then}
use Rattle.leg_route.proofs.NetTurn.{take_next, split_at}
use Rattle.leg_route.proofs.net_turn.add_wires.Goals as goal

pub loop-wire-init : goal.loop-wire-init
loop-wire-init g c = record { same = refl; within = c.requires.within; ready = c.requires.ready; added = none }

pub add-requires-clause-in_range : goal.add-requires-clause-in_range
add-requires-clause-in_range g c = rw c.loop-wire.invariant.same c.requires.in_range

pub add-requires-clause-spelled : goal.add-requires-clause-spelled
add-requires-clause-spelled g c =
    let design = g.G.Ground.design c.args.ground.now in
    let is =
    all_read (IsWire design.library design.vias false) c.args.wires.now c.loop-wire.wire-index c.wire-item.result c.requires.spelled
    c.loop-wire-test.true c.wire-item.is in
    subst (λ d. IsWire d.library d.vias false c.wire-item.result) (sym c.loop-wire.invariant.same) is

pub loop-wire-preserved : goal.loop-wire-preserved
loop-wire-preserved g c =
    let ground = g.G.Ground in
    let design = ground.design c.args.ground.now in
    let first = ground.flat c.args.ground.now in
    let before = ground.flat c.loop-wire.ground in
    let after = ground.flat c.add.new.self in
    let wires = c.args.wires.now in
    let i = c.loop-wire.wire-index in
    let wire = c.wire-item.result in
    let step = subst (λ d. HasOneMoreWire d c.args.net wire before after) c.loop-wire.invariant.same c.in_ok-add.ensures.added in
    let more = more_then design c.args.net (take i wires) wire first before after c.loop-wire.invariant.added step in
    let next = take_next wires i wire c.loop-wire-test.true c.wire-item.is in
    record {
      same = c.in_ok-add.ensures.same_design ∙ c.loop-wire.invariant.same;
      within = c.in_ok-add.ensures.within;
      ready = c.in_ok-add.ensures.ready;
      added = subst (λ ws. HasMoreWires design c.args.net ws first after) (sym next) more;
    }

pub returns-in_err-add-clause-many : goal.returns-in_err-add-clause-many
returns-in_err-add-clause-many g c =
    let ground = g.G.Ground in
    let design = ground.design c.args.ground.now in
    let wires = c.args.wires.now in
    let i = c.loop-wire.wire-index in
    let wire = c.wire-item.result in
    let last = ground.flat c.loop-wire.ground in
    let same = c.loop-wire.invariant.same in
    let p = err_from_is_err_and c.from_residual.result c.from_residual.ensures.1 in
    rw (p.1, p.2) (λ many. record {
      before = take i wires;
      wire = wire;
      after = drop (suc i) wires;
      are = split_at wires i wire c.loop-wire-test.true c.wire-item.is;
      last = last;
      first = c.loop-wire.invariant.added;
      over = subst (λ d. PART_LIMIT < length last.shapes + length (wire_outlines d wire)) same (c.in_err-add.ensures.many many);
    })
