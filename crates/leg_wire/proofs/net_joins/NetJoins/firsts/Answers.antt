-- The roots are those of the net's sets.
use Rattle.std.proofs.Common.{[], length, get_or, take}
use Rattle.std.proofs.lemmas.Result.{IfOk-weaker}
use Rattle.leg_rules.specs.Metal.Flat.{FlatModel}
use Rattle.leg_rules.specs.Joins.Touch.{piece_count, AreJoined}
use Rattle.leg_wire.specs.Joins.{JoinsModel, AreJoinsOf}
use Rattle.leg_wire.specs.PieceMarks.{AreFirsts}
use Rattle.leg_wire.specs.Steps.NumberSets.{AreTogether}
use Rattle.leg_wire.proofs.Touches.{sets_of_joins, firsts_of_joined}
use Rattle.leg_wire.proofs.net_joins.NetJoins.firsts.Goals as goal

pub returns : goal.returns
returns g c =
    let inside = c.self.inside in
    let sets = inside.groups.sets in
    let joins : JoinsModel = record {
      net = inside.net;
      is_whole = inside.is_whole;
      metal = inside.metal.items;
      sets = sets;
      given = take inside.given (get_or inside.groups.members.items 0 []);
    } in
    rw (← c.self.view_is)
    (IfOk-weaker c.roots.result (λ roots. AreFirsts (AreTogether sets) (length sets) roots.items)
    (λ firsts. (flat : FlatModel) → AreJoinsOf flat joins → AreFirsts (AreJoined flat joins.net) (piece_count flat joins.net) firsts.items)
    (λ firsts done flat are. firsts_of_joined flat joins.net sets firsts.items (sets_of_joins flat joins are c.self.invariant.sets_are) done)
    c.roots.ensures.firsts)
