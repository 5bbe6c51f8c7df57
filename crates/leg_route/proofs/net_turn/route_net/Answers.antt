use Rattle.std.proofs.Common.{◌++◌, false, refl, subst, sym, ap, ◌∙◌}
use Rattle.std.proofs.lemmas.List.Elements.{All-nil}
use Rattle.leg_design_records.specs.WellFormedNets.{IsWire}
use Rattle.leg_route.specs.Steps.NetRun.{NetRun}
use Rattle.leg_route.specs.Steps.NetRun.NetRun.{begun}
use Rattle.leg_route.proofs.NetTurn.{gets_wires, turn_more, turn_less, spelled_more}
use Rattle.leg_route.proofs.net_turn.route_net.Goals as goal

pub walks-init : goal.walks-init
walks-init g c =
    let ground = g.G.Ground in
    let design = ground.design c.args.ground.now in
    let first = ground.flat c.args.ground.now in
    record {
      same = refl;
      within = c.requires.within;
      ready = c.requires.ready;
      spelled = rw c.new-wires.ensures.items (All-nil (IsWire design.library design.vias false));
      run = subst (λ ws. NetRun design c.args.net first ws first) (sym c.new-wires.ensures.items) begun;
    }

pub walks-preserved : goal.walks-preserved
walks-preserved g c =
    let ground = g.G.Ground in
    let design = ground.design c.args.ground.now in
    let first = ground.flat c.args.ground.now in
    let before = c.walks.ground in
    let mid = c.next.new.self in
    let after = c.add_wires.new.ground in
    let wires = c.walks.wires.items in
    let more = c.in-Wires.more.items in
    let then = c.extend_from_slice.new.self.items in
    let same = c.walks.invariant.same in
    let step = rw c.in-Wires.is at c.in_ok-next.ensures.step in
    let grows =
    gets_wires (ground.design before) (ground.design mid) c.args.net (ground.flat before) (ground.flat mid) (ground.flat after) more c.deref.result.now
    c.in_ok-next.ensures.same_design c.in_ok-next.ensures.same_flat c.deref.ensures.value c.in_ok-add_wires-in-Wires.ensures.added in
    let longer = c.in_ok-extend_from_slice-in-Wires.ensures.items ∙ ap (λ ws. wires ++ ws) c.deref-in-Wires.ensures.value in
    record {
      same = c.in_ok-add_wires-in-Wires.ensures.same_design ∙ c.in_ok-next.ensures.same_design ∙ same;
      within = c.in_ok-add_wires-in-Wires.ensures.within;
      ready = c.in_ok-add_wires-in-Wires.ensures.ready;
      spelled = spelled_more design (ground.design before) c.args.net (ground.flat before) wires more then same step.1 longer c.walks.invariant.spelled;
      run = turn_more design (ground.design before) c.args.net first (ground.flat before) (ground.flat after) wires more then same
          c.walks.invariant.run step.0 step.1 grows longer;
    }

pub walks-smaller : goal.walks-smaller
walks-smaller g c =
    let ground = g.G.Ground in
    let before = c.walks.ground in
    let mid = c.next.new.self in
    let after = c.add_wires.new.ground in
    let more = c.in-Wires.more.items in
    let step = rw c.in-Wires.is at c.in_ok-next.ensures.step in
    let grows =
    gets_wires (ground.design before) (ground.design mid) c.args.net (ground.flat before) (ground.flat mid) (ground.flat after) more c.deref.result.now
    c.in_ok-next.ensures.same_design c.in_ok-next.ensures.same_flat c.deref.ensures.value c.in_ok-add_wires-in-Wires.ensures.added in
    turn_less (ground.design before) c.args.net (ground.flat before) (ground.flat after) more step.1 grows c.in_ok-add_wires-in-Wires.ensures.within
