-- One net more, each of whose pieces can be reached, or the first piece that cannot be.
use Rattle.std.proofs.Common.{sym, subst, ◌∙◌}
use Rattle.std.proofs.lemmas.List.Elements.{All-get_or, AllWithin-more, AllWithin-upto, at_read}
use Rattle.leg_finish.specs.declared.groups.OpenNet.{OpenNet}
use Rattle.leg_finish.specs.Steps.OpenNets.{IsOpenWith}
use Rattle.leg_finish.proofs.FirstReach.{IsReached, all_reached, first_of_all}
use Rattle.leg_finish.proofs.reach.first_unreachable.Goals as goal

pub unreachable_piece-requires-clause-told : goal.unreachable_piece-requires-clause-told
unreachable_piece-requires-clause-told g c = rw c.deref.ensures.value (c.in_ok-slots.ensures c.args.flat.now (sym c.shapes.ensures.is))

pub unreachable_piece-requires-clause-is_open : goal.unreachable_piece-requires-clause-is_open
unreachable_piece-requires-clause-is_open g c =
    let nets = c.args.nets.now in
    let net = c.net-item.result in
    let is_open = λ (o : OpenNet g.row.A.Denot). IsOpenWith c.args.design.now c.args.flat.now o in
    rw c.requires.of_design (subst is_open (sym c.net-item.is) (All-get_or is_open nets c.loop-net.net-index net c.loop-net-test.true c.requires.nets.each))

pub loop-net-preserved : goal.loop-net-preserved
loop-net-preserved g c =
    let nets = c.args.nets.now in
    let net = c.net-item.result in
    let i = c.loop-net.net-index in
    let is_reached = λ (o : OpenNet g.row.A.Denot). IsReached c.args.design.now c.args.flat.now o in
    let reached : is_reached net = rw (c.requires.of_design, c.in_default.is) at c.in_ok-found.ensures.found in
    record {
      reached = AllWithin-more is_reached nets 0 i c.loop-net.invariant.reached (at_read nets is_reached i net c.loop-net-test.true c.net-item.is reached);
      count = c.in_ok-found.ensures.count ∙ c.loop-net.invariant.count;
    }

pub returns-in-Some : goal.returns-in-Some
returns-in-Some g c =
    let found = rw (c.requires.of_design, c.in-Some.is) at c.in_ok-found.ensures.found in
    first_of_all c.args.design.now c.args.flat.now c.args.nets.now c.requires.nets c.loop-net.net-index c.net-item.result c.loop-net-test.true c.net-item.is
    c.in-Some.piece c.loop-net.invariant.reached found

pub returns : goal.returns
returns g c =
    let nets = c.args.nets.now in
    let is_reached = λ (o : OpenNet g.row.A.Denot). IsReached c.args.design.now c.args.flat.now o in
    all_reached c.args.design.now c.args.flat.now nets c.requires.nets
    (AllWithin-upto is_reached nets 0 c.loop-net.net-index _ c.loop-net-test.false c.loop-net.invariant.reached)
