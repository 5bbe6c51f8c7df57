use Rattle.std.proofs.Common.{◌≢◌, get_or, ap, ◌∙◌}
use Rattle.std.proofs.lemmas.List.Elements.{All-get_or}
use Rattle.leg_route_laws.proofs.Within.{nets_within}
use Rattle.leg_finish.specs.declared.groups.OpenNet.{OpenNet}
use Rattle.leg_finish.proofs.one_net.first_unreachable_piece.Goals as goal

pub open_nets-requires : goal.open_nets-requires
open_nets-requires g c = nets_within c.args.design.now c.args.flat.now c.requires.is_flat

pub returns : goal.returns
returns g c = λ k unreachable.
    let nets = c.in_ok-nets.nets.items in
    let o = c.in_ok-nets.ensures.are.all c.args.net unreachable.is_open in
    let none = rw c.deref.ensures.value at c.in-None.ensures in
    let differs : (get_or nets o.0 o.1).net ≢ c.args.net = All-get_or (λ (other : OpenNet g.row.A.Denot). other.net ≢ c.args.net) nets o.0 o.1 o.2 none in
    differs (ap (λ (other : OpenNet g.row.A.Denot). other.net) o.3 ∙ o.4)
