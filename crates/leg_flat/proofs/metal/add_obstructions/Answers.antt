use Rattle.leg_flat.proofs.Registers.{kept_size}
use Rattle.leg_flat.proofs.metal.add_obstructions.Goals as goal

pub returns : goal.returns
returns g c =
    let size =
    kept_size c.width-width.result c.height-height.result c.master.inside.size c.width-width.ensures.is c.height-height.ensures.is
    c.width-width.ensures.proper in
    rw (← c.master.view_is) (rw (size, c.as_slice.ensures) at c.add_drawn.ensures)
