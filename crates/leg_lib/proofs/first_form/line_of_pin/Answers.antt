use Rattle.leg_lib.proofs.MacroForms.{macro_part_shorter}
use Rattle.leg_lib.proofs.first_form.line_of_pin.Goals as goal

pub parts-smaller : goal.parts-smaller
parts-smaller g c =
    macro_part_shorter c.args.profile c.args.library.now c.parts.parts c.macro_part.new.self c.parts.words c.macro_part.new.words c.in-Ok.ensures
