use Rattle.std.proofs.Common.{false, All, refl, map, subst, ◌∙◌}
use Rattle.std.proofs.lemmas.Result.{err_from_is_err_and}
use Rattle.std.proofs.lemmas.List.Elements.{All-nil}
use Rattle.leg_design_records.specs.WellFormedNets.{IsWire}
use Rattle.leg_route.specs.Steps.Stops.{IsNetStop}
use Rattle.leg_route.proofs.NetTurn.{all_last}
use Rattle.leg_route.proofs.NetByNet.{underway_first, underway_step, run_stops}
use Rattle.leg_route.proofs.nets.turns.Goals as goal

pub loop-net-init : goal.loop-net-init
loop-net-init g c =
    let ground = g.G.Ground in
    let design = ground.design c.args.ground.now in
    record {
      same = refl;
      within = c.requires.within;
      ready = c.requires.ready;
      spelled = rw c.new-lists.ensures.items (All-nil (λ wires. All (IsWire design.library design.vias false) wires.items));
      run = rw c.new-lists.ensures.items (underway_first design (ground.flat c.args.ground.now));
    }

pub loop-net-preserved : goal.loop-net-preserved
loop-net-preserved g c =
    let ground = g.G.Ground in
    let design = ground.design c.args.ground.now in
    let first = ground.flat c.args.ground.now in
    let before = c.loop-net.ground in
    let after = c.route_net.new.ground in
    let lists = c.loop-net.lists.items in
    let own = c.in_ok-wires.wires in
    let then = c.push.new.self.items in
    let same = c.loop-net.invariant.same in
    record {
      same = c.in_ok-wires.ensures.same_design ∙ same;
      within = c.in_ok-wires.ensures.within;
      ready = c.in_ok-wires.ensures.ready;
      spelled = all_last (λ wires. All (IsWire design.library design.vias false) wires.items) lists then own c.in_ok-push.ensures.items
          c.loop-net.invariant.spelled (subst (λ d. All (IsWire d.library d.vias false) own.items) same c.in_ok-wires.ensures.spelled);
      run = underway_step (λ wires. wires.items) design (ground.design before) first c.loop-net.net lists then (ground.flat before) (ground.flat after)
          own same c.loop-net.invariant.run c.in_ok-wires.ensures.run c.in_ok-wires.ensures.joined c.in_ok-push.ensures.items;
    }

pub returns-in_err-wires-clause-stop : goal.returns-in_err-wires-clause-stop
returns-in_err-wires-clause-stop g c =
    let ground = g.G.Ground in
    let design = ground.design c.args.ground.now in
    let before = ground.flat c.loop-net.ground in
    let lists = map (λ wires. wires.items) c.loop-net.lists.items in
    let fault = c.in_err-wires.field-0.0 in
    let p = err_from_is_err_and c.from_residual.result c.from_residual.ensures.1 in
    rw (p.1, p.2)
    (run_stops design (ground.flat c.args.ground.now) c.loop-net.net lists before fault c.loop-net.invariant.run
    (subst (λ d. IsNetStop d before c.loop-net.net fault) c.loop-net.invariant.same c.in_err-wires.ensures.stop))
