use Rattle.std.proofs.Common.{rules}
use Rattle.std.proofs.lemmas.Result.{on_ok_weaker}
use Rattle.leg_print.proofs.ShapeText.{shape_pushed}
use Rattle.leg_print.proofs.fault_line.push_shape.Goals as goal

pub returns : goal.returns
returns g c =
    on_ok_weaker c.push_sides.result (λ last.
    shape_pushed c.args.design.now c.args.shape.now _ c.push_first.new.text.items c.push_owner.new.text.items _
    (search rules) c.in_ok-push_owner.ensures last) c.push_sides.ensures
