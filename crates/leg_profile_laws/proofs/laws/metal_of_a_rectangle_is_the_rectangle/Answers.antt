use Rattle.leg_profile_laws.proofs.RectMetal.{rect_metal}
use Rattle.leg_profile_laws.proofs.laws.metal_of_a_rectangle_is_the_rectangle.Goals as goal

pub returns : goal.returns
returns c = λ layer rect wires proper said. (rect_metal layer rect proper).given wires said
