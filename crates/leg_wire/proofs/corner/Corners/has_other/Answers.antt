-- What the table has for the pieces is compared with the corner, or it is the corner from now on.
use Rattle.std.proofs.Common.{rules}
use Rattle.leg_wire.proofs.SeenPoints.{seen_before, seen_first}
use Rattle.leg_wire.proofs.corner.Corners.has_other.Goals as goal

pub returns-in-Some : goal.returns-in-Some
returns-in-Some g c =
    rw (← c.self.view_is)
    (seen_before c.self.inside.first c.args.a.now c.args.b.now c.pieces_of-pieces.result c.pieces_of-pieces.ensures
    c.corner_of-corner.result c.corner_of-corner.ensures c.in-Some.first.now c.ne.result (search rules) c.ne.ensures)

pub returns : goal.returns
returns g c =
    rw (← c.self.view_is)
    (seen_first c.self.inside.first c.args.a.now c.args.b.now c.pieces_of-pieces.result c.pieces_of-pieces.ensures
    c.corner_of-corner.result c.corner_of-corner.ensures c.insert.new.self (search rules) c.in_ok-insert.ensures.updates.0)
