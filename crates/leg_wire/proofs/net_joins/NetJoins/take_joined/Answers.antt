-- They are those of the list behind the ones that were given.
use Rattle.std.proofs.Common.{◌≡◌, ◌-◌, [], length, get_or, drop, take, refl, ap, ◌∙◌, arith}
use Rattle.std.proofs.lemmas.List.{take_all, length-drop}
use Rattle.leg_wire.specs.Joins.{JoinsModel}
use Rattle.leg_wire.proofs.Touches.{sets_of_joins}
use Rattle.leg_wire.proofs.JoinedList.{newly_joined}
use Rattle.leg_wire.proofs.net_joins.NetJoins.take_joined.Goals as goal

pub returns-clause-joined : goal.returns-clause-joined
returns-clause-joined g c flat =
    let inside = c.self.inside in
    let lists = inside.groups.members.items in
    let joins : JoinsModel = record {
      net = inside.net;
      is_whole = inside.is_whole;
      metal = inside.metal.items;
      sets = inside.groups.sets;
      given = take inside.given (get_or lists 0 []);
    } in
    let items : c.in_ok-pieces.pieces.items ≡ drop inside.given (get_or lists 0 []) =
    c.in_ok-pieces.ensures.items
    ∙ take_all (length c.first-joined.result.now - inside.given) (drop inside.given c.first-joined.result.now)
    (let rest = length-drop inside.given c.first-joined.result.now in omega (arith, rest))
    ∙ ap (drop inside.given) c.first-joined.ensures in
    rw (← c.self.view_is, items)
    (λ are. newly_joined flat joins inside.groups.sets lists inside.given (sets_of_joins flat joins are c.self.invariant.sets_are) c.self.invariant.listed refl)
