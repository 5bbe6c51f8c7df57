use Rattle.std.proofs.Common.{◌<◌, length, arith}
use Rattle.leg_route_access.proofs.WalkWires.{all_goes}
use Rattle.leg_route_access.proofs.spelling.wires_of.Goals as goal

pub returns-in_ok-wires-clause-wires : goal.returns-in_ok-wires-clause-wires
returns-in_ok-wires-clause-wires g c =
    let other = c.if-nodes-eq1.false in
    let some = c.requires.walk.some in
    let many : 1 < length c.args.nodes.now = omega arith in
    all_goes c.args.design.now c.args.nodes.now c.in_ok-wires.wires.items many c.in_ok-wires.ensures.wires
