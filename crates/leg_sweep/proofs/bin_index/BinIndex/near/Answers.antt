use Rattle.leg_sweep.proofs.NearNodes.{near_of_nodes}
use Rattle.leg_sweep.proofs.bin_index.BinIndex.near.Goals as goal

pub new-requires : goal.new-requires
new-requires g c =
    rw (c.deref.ensures.value, c.deref-2.ensures.value)
    (record { forest = c.self.invariant.are.forest; right = c.self.invariant.are.right; window = c.around.ensures.window })

pub returns : goal.returns
returns g c =
    rw (← c.self.view_is, c.new.ensures, c.deref.ensures.value, c.deref-2.ensures.value, c.around.ensures.rect, c.around.ensures.reach)
    (near_of_nodes _ c.args.rect.now c.args.reach _ c.self.invariant.are)
