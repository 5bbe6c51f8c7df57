-- The marks are those of the net's sets.
use Rattle.std.proofs.Common.{length}
use Rattle.std.proofs.lemmas.Result.{IfOk-weaker}
use Rattle.leg_wire.specs.PieceMarks.{AreMarks}
use Rattle.leg_rules.specs.Joins.Touch.{piece_count, AreJoined}
use Rattle.leg_wire.specs.Steps.NumberSets.{AreTogether}
use Rattle.leg_wire.proofs.Touches.{marks_of_joined}
use Rattle.leg_wire.proofs.join.joined_among.Goals as goal

pub returns : goal.returns
returns g c =
    let flat = c.args.flat.now in
    let net = c.args.net in
    let sets = c.in_ok-sets.sets in
    IfOk-weaker c.marks.result (λ marks. AreMarks (AreTogether sets 0) (length sets) marks.items)
    (λ marks. AreMarks (AreJoined flat net 0) (piece_count flat net) marks.items)
    (λ marks done. marks_of_joined flat net sets marks.items c.in_ok-sets.ensures done)
    c.marks.ensures
