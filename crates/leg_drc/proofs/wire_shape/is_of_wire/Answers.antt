-- A shape is of a wire just where the numbers of one are found.
use Rattle.std.proofs.Common.{sym, ◌∙◌}
use Rattle.leg_drc.proofs.WireShapes.{wire_from_is_some, is_some_from_wire}
use Rattle.leg_drc.proofs.wire_shape.is_of_wire.Goals as goal

pub returns : goal.returns
returns g c =
    let flat = c.args.flat.now in
    let shape = c.args.shape.now in (
      λ holds. wire_from_is_some flat shape c.wire_of.result c.wire_of.ensures (sym c.is_some.ensures ∙ holds),
      λ of. c.is_some.ensures ∙ is_some_from_wire flat shape c.wire_of.result c.wire_of.ensures of,
    )
