use Rattle.std.proofs.Common.{map}
use Rattle.std.proofs.lemmas.Result.{err_from_is_err_and}
use Rattle.leg_route.proofs.NetByNet.{refused_then, finished_underway}
use Rattle.leg_route.proofs.nets.route_nets.Goals as goal

pub returns-clause-run : goal.returns-clause-run
returns-clause-run g c =
    let ground = g.G.Ground in
    let lists = map (λ wires. wires.items) c.in_ok-lists.lists.items in
    finished_underway (ground.design c.args.ground.now) (ground.flat c.args.ground.now) c.args.nets lists (ground.flat c.turns.new.ground)
    c.requires.count c.requires.comes c.in_ok-lists.ensures.run c.in_ok-lists.ensures.within

pub returns-in_err-lists-clause-refused : goal.returns-in_err-lists-clause-refused
returns-in_err-lists-clause-refused g c =
    let ground = g.G.Ground in
    let p = err_from_is_err_and c.from_residual.result c.from_residual.ensures.1 in
    rw (p.1, p.2)
    (refused_then (ground.design c.args.ground.now) (ground.flat c.args.ground.now) c.in_err-lists.field-0.0 c.requires.comes
    c.in_err-lists.ensures.stop)
