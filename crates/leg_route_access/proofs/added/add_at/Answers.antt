use Rattle.std.proofs.Common.{arith}
use Rattle.std.proofs.lemmas.Option.{slice_get-get_or}
use Rattle.leg_route_access.proofs.OneMoreShape.{told_here}
use Rattle.leg_route_access.proofs.NoLoss.{settled_here}
use Rattle.leg_route_access.proofs.added.add_at.Goals as goal

pub returns-then-is_settled : goal.returns-then-is_settled
returns-then-is_settled g c =
    settled_here c.args.grid.now c.requires.proper c.args.shape.now c.args.number c.args.slots.now _ c.args.on_layer
    (slice_get-get_or c.args.slots.now c.args.number _ (let count = c.requires.count in let within = c.requires.within in omega (arith, count, within)))
    (c.is_settled.ensures.0 c.if-is_settled.true) c.requires.on_layer

pub returns : goal.returns
returns g c =
    told_here c.args.grid.now c.requires.proper c.args.shape.now c.args.number c.args.slots.now _ c.slot_beside.result c.and.result
    (let count = c.requires.count in let within = c.requires.within in omega (arith, count, within))
    (slice_get-get_or c.args.slots.now c.args.number _ (let count = c.requires.count in let within = c.requires.within in omega (arith, count, within)))
    c.slot_beside.ensures
    (record { node = c.and.ensures.node; along = c.and.ensures.along; above = c.and.ensures.above })
