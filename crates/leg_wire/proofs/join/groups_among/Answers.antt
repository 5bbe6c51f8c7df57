-- The roots are those of the net's sets.
use Rattle.std.proofs.Common.{length}
use Rattle.std.proofs.lemmas.Result.{IfOk-weaker}
use Rattle.leg_wire.specs.PieceMarks.{AreFirsts}
use Rattle.leg_rules.specs.Joins.Touch.{piece_count, AreJoined}
use Rattle.leg_wire.specs.Steps.NumberSets.{AreTogether}
use Rattle.leg_wire.proofs.Touches.{firsts_of_joined}
use Rattle.leg_wire.proofs.join.groups_among.Goals as goal

pub returns : goal.returns
returns g c =
    let flat = c.args.flat.now in
    let net = c.args.net in
    let sets = c.in_ok-sets.sets in
    IfOk-weaker c.roots.result (λ roots. AreFirsts (AreTogether sets) (length sets) roots.items)
    (λ firsts. AreFirsts (AreJoined flat net) (piece_count flat net) firsts.items)
    (λ firsts done. firsts_of_joined flat net sets firsts.items c.in_ok-sets.ensures done)
    c.roots.ensures.firsts
