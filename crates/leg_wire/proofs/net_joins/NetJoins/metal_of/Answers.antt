-- The metal is in the order of its pieces.
use Rattle.leg_wire.proofs.net_joins.NetJoins.metal_of.Goals as goal

pub metal_of-requires : goal.metal_of-requires
metal_of-requires g c = rw c.deref.ensures.value c.self.invariant.in_order

pub returns : goal.returns
returns g c = rw (← c.self.view_is, ← c.deref.ensures.value) c.metal_of.ensures
