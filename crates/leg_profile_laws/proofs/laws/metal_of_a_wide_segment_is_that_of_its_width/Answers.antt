use Rattle.leg_profile_laws.proofs.WideMetal.{wide_metal}
use Rattle.leg_profile_laws.proofs.laws.metal_of_a_wide_segment_is_that_of_its_width.Goals as goal

pub returns : goal.returns
returns c = λ width layer at to extension extension_there wire long said. (wide_metal width layer at to extension extension_there long).given wire said
