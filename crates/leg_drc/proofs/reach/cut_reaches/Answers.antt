-- One more layer has its reach, and there is none beyond the layers.
use Rattle.std.proofs.Common.{[], ◌∷◌, length, ap, length-append, arith}
use Rattle.leg_drc_rules.specs.Records.{LayerRulesModel}
use Rattle.leg_drc.specs.Steps.Reach.{cut_reach}
use Rattle.leg_drc.proofs.Reaches.{reaches_more, reaches_all, no_cut_beyond}
use Rattle.leg_drc.proofs.reach.cut_reaches.Goals as goal

pub loop-layer-preserved : goal.loop-layer-preserved
loop-layer-preserved g c = rw c.in_ok-push.ensures.items (record {
  count = omega (arith, length-append c.loop-layer.reaches.items (c.cut_reach.result ∷ []), c.loop-layer.invariant.count);
  each =
      reaches_more (cut_reach c.args.library.now c.args.deck.now) c.loop-layer.reaches.items c.loop-layer.layer c.loop-layer.invariant.count
      c.loop-layer.invariant.each c.cut_reach.result c.cut_reach.ensures;
})

pub returns : goal.returns
returns g c =
    let count = ap (λ (ls : _). length {A = LayerRulesModel} ls) c.layers-layer-end.ensures.is in
    reaches_all (cut_reach c.args.library.now c.args.deck.now) c.loop-layer.reaches.items c.loop-layer.layer c.loop-layer.invariant.count
    c.loop-layer.invariant.each (λ k beyond. no_cut_beyond c.args.library.now c.args.deck.now k (omega (arith, beyond, count, c.loop-layer-test.false)))
