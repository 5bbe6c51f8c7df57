use Rattle.std.proofs.Common.{subst}
use Rattle.leg_lib_records.specs.Sound.{IsSound}
use Rattle.leg_print_laws.proofs.Whole.{text_says}
use Rattle.leg_print_laws.proofs.laws.printed_design_is_read_again.Goals as goal

pub returns : goal.returns
returns g c =
    λ profile one fits.
    text_says profile c.args.design.now (subst IsSound c.library-library.ensures.is c.layers-layers.ensures.proper) c.die-die.ensures.proper one fits
