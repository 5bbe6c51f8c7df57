-- A piece is apart where the members of the first set are fewer than all pieces.
use Rattle.std.proofs.Common.{◌<◌, ltb, IsTrue, [], get_or, length, take, ap, arith}
use Rattle.std.proofs.lemmas.Bool.Decides.{nat_tests}
use Rattle.leg_wire.specs.Joins.{JoinsModel, AreJoinsOf}
use Rattle.leg_wire.proofs.Touches.{sets_of_joins}
use Rattle.leg_wire.proofs.JoinedList.{open_where_short}
use Rattle.leg_wire.proofs.net_joins.NetJoins.is_one_apart.Goals as goal

pub returns : goal.returns
returns g c design flat =
    let inside = c.self.inside in
    let sets = inside.groups.sets in
    let lists = inside.groups.members.items in
    let joins : JoinsModel = record {
      net = inside.net;
      is_whole = inside.is_whole;
      metal = inside.metal.items;
      sets = sets;
      given = take inside.given (get_or lists 0 []);
    } in
    let size = ap length c.first.ensures in
    let into : IsTrue (ltb (length c.first.result.now) c.len.result) → length (get_or lists 0 []) < length sets =
    λ test. grind (arith, nat_tests, test, size, c.len.ensures) in
    let back : length (get_or lists 0 []) < length sets → IsTrue (ltb (length c.first.result.now) c.len.result) =
    λ short. grind (arith, nat_tests, short, size, c.len.ensures) in
    rw (← c.self.view_is)
    (λ entry (are : AreJoinsOf flat joins).
    let is = open_where_short flat joins.net sets lists (sets_of_joins flat joins are c.self.invariant.sets_are) c.self.invariant.listed design entry in
    (λ test. is.0 (into test), λ open_net. back (is.1 open_net)))
