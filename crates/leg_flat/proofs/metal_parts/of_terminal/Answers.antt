use Rattle.std.proofs.Common.{◌≡◌, None, Some}
use Rattle.leg_flat.specs.Steps.Places.{place_in}
use Rattle.leg_flat.proofs.MetalOwners.{placed_belongs, lone_belongs}
use Rattle.leg_flat.proofs.metal_parts.of_terminal.Goals as goal

pub returns-in-Some : goal.returns-in-Some
returns-in-Some g c = λ design are whose.
    let is : place_in c.args.nets.now.placed c.args.terminal ≡ Some (c.in-Some.net, c.in-Some.piece) = cc in
    placed_belongs design c.args.nets.now c.args.component c.args.terminal c.in-Some.net c.in-Some.piece are is

pub returns-in-None : goal.returns-in-None
returns-in-None g c = λ design are whose.
    let is : place_in c.args.nets.now.placed c.args.terminal ≡ None = cc in
    lone_belongs design c.args.nets.now c.args.component c.args.terminal c.args.lone are is whose
