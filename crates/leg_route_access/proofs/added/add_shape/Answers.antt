use Rattle.std.proofs.Common.{arith}
use Rattle.leg_route_access.specs.Steps.AccessUpdates.{IsSlotOnLayer}
use Rattle.leg_route_access.proofs.SlotsInTurn.{none_among, one_among, all_among, all_told, one_layer}
use Rattle.leg_route_access.proofs.added.add_shape.Goals as goal

pub loop-k-init : goal.loop-k-init
loop-k-init g c = (
  none_among c.args.grid.now c.args.shape.now (IsSlotOnLayer c.args.grid.now) c.layers_near-first.result.0 c.args.slots.now,
  λ j from below. absurd (omega (arith, from, below)),
)

pub loop-k-preserved : goal.loop-k-preserved
loop-k-preserved g c = (
  one_among c.args.grid.now c.args.shape.now (IsSlotOnLayer c.args.grid.now) c.layers_near-first.result.0 c.args.slots.now c.loop-k.k c.loop-k.slots
      c.add_on_layer.new.slots (one_layer c.args.grid.now) (omega arith) c.loop-k.invariant.0 c.add_on_layer.ensures,
  λ j from below. omega (arith, from, below),
)

pub returns-clause-told : goal.returns-clause-told
returns-clause-told g c =
    all_told c.args.grid.now c.grid_is_sound.ensures.proper c.grid_is_sound.ensures.library c.args.shape.now _ _ c.layers_near-first.ensures c.args.slots.now
    c.loop-k.slots
    (all_among c.args.grid.now c.args.shape.now (IsSlotOnLayer c.args.grid.now) c.layers_near-first.result.0 c.args.slots.now c.loop-k.k
    c.layers_near-first.result.1 c.loop-k.slots (omega arith) c.loop-k.invariant.1 c.loop-k.invariant.0)
