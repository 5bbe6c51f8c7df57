use Rattle.std.proofs.Common.{◌≡◌, [], false, drop, arith}
use Rattle.std.proofs.lemmas.List.{append-nil}
use Rattle.std.proofs.lemmas.List.Elements.{All-push}
use Rattle.leg_design_records.specs.WellFormedNets.{IsWire}
use Rattle.leg_route_access.proofs.WalkWires.{rest_walks, nothing_left, begun_more}
use Rattle.leg_route_access.proofs.spelling.wires_of_steps.Goals as goal

pub loop-rest-preserved : goal.loop-rest-preserved
loop-rest-preserved g c =
    let rest : c.after-rest.result.now ≡ drop c.first_wire-wire.result.1 c.loop-rest.rest.now = c.after-rest.ensures in
    rw rest (record {
      walk = rest_walks c.args.design.now c.loop-rest.rest.now c.first_wire-wire.result.1 c.first_wire-wire.ensures.within c.loop-rest.invariant.walk;
      begun = begun_more c.args.design.now c.args.nodes.now c.loop-rest.rest.now c.loop-rest.wires.items c.push.new.self.items c.first_wire-wire.result.0
          c.first_wire-wire.result.1 c.in_ok-push.ensures.items c.loop-rest.invariant.begun c.first_wire-wire.ensures.begins;
      spelled =
          rw c.in_ok-push.ensures.items (All-push (IsWire c.args.design.now.library c.args.design.now.vias false) c.loop-rest.wires.items
          c.first_wire-wire.result.0 c.loop-rest.invariant.spelled c.first_wire-wire.ensures.spelled);
    })

pub returns-clause-wires : goal.returns-clause-wires
returns-clause-wires g c =
    let few = c.loop-rest-test.false in
    rw append-nil at (c.loop-rest.invariant.begun [] (nothing_left c.args.design.now c.loop-rest.rest.now c.loop-rest.invariant.walk.some (omega (arith, few))))
